use Rattle.std.proofs.Common.{Err, List, None, Ok, Option, Result, ap, length, subst, sym, ◌∙◌, ◌≡◌}
use Rattle.std.specs.Result.{IsErr, IsErrAnd}
use Rattle.seg_names.specs.declared.seg_id.SegId.{SegId}
use Rattle.book_rows.specs.Allocation.{allotted, allotted_id}
use Rattle.book_rows.specs.Outcome.{no_room}
use Rattle.book_rows.specs.declared.answers.NewPending.{NewPending}
use Rattle.book_rows.specs.declared.kinds.Table.{Table}
use Rattle.book_rows.specs.declared.rows.ChunkRow.{ChunkRow}
use Rattle.book_rows.specs.declared.rows.PendingRow.{PendingRow}
use Rattle.seg_alloc.specs.Answers.{IsAllotted}
use Rattle.seg_alloc.specs.Room.{is_last, own_tables, with_tables}
use Rattle.seg_alloc.specs.declared.faults.AllotFault.{AllotFault}
use Rattle.seg_alloc.specs.declared.faults.AllotFault.TheVariants as AllotFaults
use Rattle.seg_alloc.proofs.Rooms.{room_is, told_full}
use Rattle.seg_alloc.proofs.allotting.allot.Goals as goal

pub returns-in-Some-clause-rule : goal.returns-in-Some-clause-rule
returns-in-Some-clause-rule c = λ b few.
    let n : NewPending = c.args.row in
    let cs : List ChunkRow = c.args.segments.now.chunks in
    let ps : List PendingRow = c.args.pendings.now.pendings in
    let last : c.is_last-last.result ≡ is_last (length ps) = c.is_last-last.ensures ∙ ap is_last c.count.ensures in
    sym (room_is n cs ps b c.chunk_count.ensures.distinct few)
    ∙ (sym (told_full n cs ps c.next_part-next.result c.chunk_count.result c.is_last-last.result c.next_part-next.ensures c.chunk_count.ensures.value last) ∙ sym c.in-Some.ensures)

lacks_memory : (r : Result SegId AllotFault) (own : SegId) (full : Option Table) → IsErr r → IsErrAnd r (λ fault. fault ≡ AllotFaults.OutOfMemory) → full ≡ None → IsAllotted r own full
lacks_memory (Ok id) own full err is none = cc
lacks_memory (Err fault) own full err is none = subst (λ (f : AllotFault). IsAllotted (Err f) own full) (sym is) none

pub returns-in_err-with_next_part-clause-rule : goal.returns-in_err-with_next_part-clause-rule
returns-in_err-with_next_part-clause-rule c = λ b few.
    let n : NewPending = c.args.row in
    let cs : List ChunkRow = c.args.segments.now.chunks in
    let ps : List PendingRow = c.args.pendings.now.pendings in
    let last : c.is_last-last.result ≡ is_last (length ps) = c.is_last-last.ensures ∙ ap is_last c.count.ensures in
    lacks_memory c.from_residual.result (allotted_id cs n) (no_room own_tables (allotted n (with_tables cs ps b))) c.from_residual.ensures.0 c.from_residual.ensures.1
    (
    sym (room_is n cs ps b c.chunk_count.ensures.distinct few)
    ∙ (sym (told_full n cs ps c.next_part-next.result c.chunk_count.result c.is_last-last.result c.next_part-next.ensures c.chunk_count.ensures.value last) ∙ sym c.in_default.ensures)
    )

pub returns-clause-rule : goal.returns-clause-rule
returns-clause-rule c = λ b few.
    let n : NewPending = c.args.row in
    let cs : List ChunkRow = c.args.segments.now.chunks in
    let ps : List PendingRow = c.args.pendings.now.pendings in
    let last : c.is_last-last.result ≡ is_last (length ps) = c.is_last-last.ensures ∙ ap is_last c.count.ensures in (
      c.in_ok-with_next_part.ensures.id,
      sym (room_is n cs ps b c.chunk_count.ensures.distinct few)
          ∙ (sym (told_full n cs ps c.next_part-next.result c.chunk_count.result c.is_last-last.result c.next_part-next.ensures c.chunk_count.ensures.value last) ∙ sym c.in_default.ensures),
    )
