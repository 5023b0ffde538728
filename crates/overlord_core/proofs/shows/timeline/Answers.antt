use Rattle.std.proofs.Common.{subst, sym}
use Rattle.book_rows.specs.declared.rows.Book.{Book}
use Rattle.laws_parts.specs.OneSpan.{ShareOneSpan}
use Rattle.laws_parts.proofs.OneSpan.{sound_shares_one_span}
use Rattle.overlord_core.proofs.shows.timeline.Goals as goal

pub timeline-requires : goal.timeline-requires
timeline-requires c =
    subst (λ (x : Book). ShareOneSpan x.segments c.args.source.now) (sym c.core.view_is) (sound_shares_one_span c.args.core.now c.requires c.args.source.now)
