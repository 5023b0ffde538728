use Rattle.std.proofs.Common.{◌∙◌, ap, ap₂, ◌+◌, nat_lt, sym}
use Rattle.book_rows.specs.Outcome.{row_limit}
use Rattle.stream_offsets.proofs.Counts.{advance_count}
use Rattle.stream_offsets.proofs.room.exceeds_with.Goals as goal

pub returns : goal.returns
returns c =
    c.exceeds.ensures
    ∙ (
    ap₂ (λ m n. nat_lt row_limit (m + n)) c.offset_count.ensures c.new_count.ensures
    ∙ ap (λ n. nat_lt row_limit n) (sym (advance_count c.args.source.now c.args.ranges.now.stream c.args.ranges.now.parts c.args.streams.now.offsets c.requires.stored c.requires.ascending))
    )
