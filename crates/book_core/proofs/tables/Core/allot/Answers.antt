use Rattle.std.proofs.Common.{◌≡◌, Err, None, Some, false, subst, sym}
use Rattle.book_rows.specs.Allocation.{allotted, allotted_id}
use Rattle.book_rows.specs.Outcome.{is_full, no_room}
use Rattle.book_rows.specs.declared.answers.NewPending.{NewPending}
use Rattle.book_rows.specs.declared.kinds.Table.TheVariants as Tables
use Rattle.book_rows.specs.declared.rows.Book.{Book}
use Rattle.seg_alloc.specs.Answers.{IsAllotted}
use Rattle.seg_alloc.specs.Room.{own_tables, with_tables}
use Rattle.seg_alloc.specs.declared.faults.AllotFault.{AllotFault}
use Rattle.book_core.proofs.NewIds.{clash}
use Rattle.book_core.proofs.tables.Core.allot.Goals as goal

-- there is room
pub unreachable-requires : goal.unreachable-requires
unreachable-requires c =
    let b : Book = c.args.self.now in
    let n : NewPending = c.args.pending in
    let after : Book = allotted n (with_tables c.self.inside.segments.chunks c.self.inside.pendings.pendings b) in
    let parts : is_full Tables.Parts (with_tables c.self.inside.segments.chunks c.self.inside.pendings.pendings b) ≡ false =
    subst (λ (x : Book). is_full Tables.Parts (with_tables x.chunks x.pendings b) ≡ false) (sym c.self.view_is) c.requires.parts in
    let none : no_room own_tables after ≡ None = subst (λ (x : Book). no_room own_tables (allotted n (with_tables x.chunks x.pendings b)) ≡ None) (sym c.self.view_is) c.requires.room in
    let said : IsAllotted (Err c.in-Err-Full.field-0) (allotted_id c.self.inside.segments.chunks n) (no_room own_tables after) = c.in-Err-Full.ensures.rule b parts in
    let full : no_room own_tables after ≡ Some c.in-Err-Full.field-0-0 =
    subst (λ (f : AllotFault). IsAllotted (Err f) (allotted_id c.self.inside.segments.chunks n) (no_room own_tables after)) c.in-Err-Full.field-0-is said in
    clash (no_room own_tables after) c.in-Err-Full.field-0-0 none full
