use Rattle.std.proofs.Common.{List, ◌∙◌}
use Rattle.book_rows.specs.Lists.{stands_in}
use Rattle.book_rows.specs.Locks.{stripped}
use Rattle.book_rows.specs.declared.answers.NewPending.{NewPending}
use Rattle.book_rows.specs.declared.rows.ChunkRow.{ChunkRow}
use Rattle.book_rows.specs.declared.rows.PendingRow.{PendingRow}
use Rattle.seg_alloc.proofs.Rooms.{few_parts, room_is, told_full}
use Rattle.seg_alloc.proofs.room.room_for.Goals as goal

pub returns : goal.returns
returns c = λ b.
    let cs : List ChunkRow = c.args.segments.now.chunks in
    let ps : List PendingRow = c.args.pendings.now.pendings in
    let left : List PendingRow = stripped (stands_in c.args.locks.now) ps in
    let n : NewPending = c.args.row.now in
    c.too_full.ensures
    ∙ (
    told_full n cs left c.next_part-next.result c.chunk_count.result c.is_last_without-last.result c.next_part-next.ensures c.chunk_count.ensures.value c.is_last_without-last.ensures
    ∙ room_is n cs left b c.chunk_count.ensures.distinct (few_parts cs ps c.requires)
    )
