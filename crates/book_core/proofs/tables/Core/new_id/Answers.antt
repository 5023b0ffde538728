use Rattle.std.proofs.Common.{◌≡◌, Err, IfOk, Ok, Result, ap, rules, subst, sym}
use Rattle.std.proofs.lemmas.Int.{to_z-of_z}
use mir.Val.{SFits}
use mir.Syntax.{w64}
use Rattle.book_rows.specs.Allocation.{place}
use Rattle.book_rows.specs.Lists.{on_ok}
use Rattle.book_rows.specs.LockSteps.{IdRequest}
use Rattle.book_rows.specs.declared.answers.Place.{Place}
use Rattle.book_rows.specs.declared.replies.Refusal.{Refusal}
use Rattle.book_rows.specs.declared.rows.Book.{Book}
use Rattle.book_rows.specs.declared.rows.TaskRow.{TaskRow}
use Rattle.seg_alloc.specs.Answers.{IsPlaced}
use Rattle.book_core.specs.Allocations.{id_in, request_of}
use Rattle.book_core.specs.declared.allocating.NewId.{NewId}
use Rattle.book_core.proofs.Refusing.{place_why}
use Rattle.book_core.proofs.tables.Core.new_id.Goals as goal

pub returns-in-Ok : goal.returns-in-Ok
returns-in-Ok c =
    let b : Book = c.args.self.now in
    let t : TaskRow = c.args.row.now in
    let r : IdRequest = request_of c.args.request.now in
    let answer : place b.segments b.pendings t.source r.at r.granularity ≡ Ok c.in-Ok.place = c.in-Ok.ensures in
    subst (λ (o : Result NewId Refusal). IfOk c.id_in.result (λ new. new ≡ o))
    (sym (ap (λ (x : Result Place Refusal). on_ok x (λ place. id_in b r t place)) answer))
    c.id_in.ensures

pub returns-in_ok-place_refusal-in-Err : goal.returns-in_ok-place_refusal-in-Err
returns-in_ok-place_refusal-in-Err c =
    let b : Book = c.args.self.now in
    let t : TaskRow = c.args.row.now in
    let r : IdRequest = request_of c.args.request.now in
    let fits : SFits w64 c.args.request.now.at = search rules in
    let answer : Result Place Refusal = place b.segments b.pendings t.source r.at r.granularity in
    let is : IsPlaced r.at (Err c.in-Err.fault) answer = c.in-Err.ensures in
    let why : answer ≡ Err c.in_ok-place_refusal-in-Err.field-0 = place_why r.at c.in-Err.fault c.in_ok-place_refusal-in-Err.field-0 answer is (simp to_z-of_z at c.in_ok-place_refusal-in-Err.ensures) in
    sym (ap (λ (x : Result Place Refusal). on_ok x (λ place. id_in b r t place)) why)
