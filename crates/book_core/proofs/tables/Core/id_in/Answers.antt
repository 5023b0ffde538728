use Rattle.std.proofs.Common.{◌≡◌, Err, IfOk, Ok, Result, ap, rules, subst, sym}
use Rattle.std.proofs.lemmas.Int.{to_z-of_z}
use mir.Val.{SFits}
use mir.Syntax.{w64}
use Rattle.book_rows.specs.Grant.{counters_at}
use Rattle.book_rows.specs.Lists.{on_ok}
use Rattle.book_rows.specs.LockSteps.{IdRequest}
use Rattle.book_rows.specs.declared.answers.GrantedLock.{GrantedLock}
use Rattle.book_rows.specs.declared.replies.Refusal.{Refusal}
use Rattle.book_rows.specs.declared.rows.Book.{Book}
use Rattle.book_rows.specs.declared.rows.TaskRow.{TaskRow}
use Rattle.book_rows.specs.declared.rows.Want.{Want}
use Rattle.lockbox.specs.Decided.{IsAnswer, decided_lock}
use Rattle.book_core.specs.Allocations.{id_under, request_of}
use Rattle.book_core.specs.declared.allocating.NewId.{NewId}
use Rattle.book_core.proofs.Conditions.{have_shape}
use Rattle.book_core.proofs.Refusing.{lock_why}
use Rattle.book_core.proofs.tables.Core.id_in.Goals as goal

pub decided_lock-requires-clause-sound : goal.decided_lock-requires-clause-sound
decided_lock-requires-clause-sound c = have_shape c.args.self.now c.requires.sound

pub returns-in-Ok : goal.returns-in-Ok
returns-in-Ok c =
    let b : Book = c.args.self.now in
    let t : TaskRow = c.args.row.now in
    let r : IdRequest = request_of c.args.request.now in
    let fits : SFits w64 c.args.request.now.moment = search rules in
    let w : Want = record { lock_kind = r.lock_kind; span = c.args.place.now.span } in
    let answer : decided_lock b.posses (counters_at b r.now) t w ≡ Ok c.in-Ok.lock = simp to_z-of_z at c.in-Ok.ensures in
    subst (λ (o : Result NewId Refusal). IfOk c.id_under.result (λ new. new ≡ o))
    (sym (ap (λ (x : Result GrantedLock Refusal). on_ok x (λ lock. id_under b r t c.args.place.now lock)) answer))
    c.id_under.ensures

pub returns-in_ok-lock_refusal-in-Err : goal.returns-in_ok-lock_refusal-in-Err
returns-in_ok-lock_refusal-in-Err c =
    let b : Book = c.args.self.now in
    let t : TaskRow = c.args.row.now in
    let r : IdRequest = request_of c.args.request.now in
    let fits : SFits w64 c.args.request.now.moment = search rules in
    let w : Want = record { lock_kind = r.lock_kind; span = c.args.place.now.span } in
    let answer : Result GrantedLock Refusal = decided_lock b.posses (counters_at b r.now) t w in
    let is : IsAnswer (Err c.in-Err.fault) answer = simp to_z-of_z at c.in-Err.ensures in
    let why : answer ≡ Err c.in_ok-lock_refusal-in-Err.field-0 = lock_why c.in-Err.fault c.in_ok-lock_refusal-in-Err.field-0 answer is c.in_ok-lock_refusal-in-Err.ensures in
    sym (ap (λ (x : Result GrantedLock Refusal). on_ok x (λ lock. id_under b r t c.args.place.now lock)) why)
