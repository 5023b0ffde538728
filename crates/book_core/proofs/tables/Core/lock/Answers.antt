use Rattle.std.proofs.Common.{◌≡◌, ◌∙◌, Err, IfOk, Ok, Result, ap, rules, subst, sym}
use Rattle.std.proofs.lemmas.Int.{to_z-of_z}
use mir.Val.{SFits}
use mir.Syntax.{w64}
use Rattle.book_rows.specs.Grant.{counters_at}
use Rattle.book_rows.specs.Outcome as rules_of
use Rattle.book_rows.specs.Outcome.{task_of}
use Rattle.book_rows.specs.declared.answers.GrantedLock.{GrantedLock}
use Rattle.book_rows.specs.declared.kinds.TaskStatus.TheVariants as Statuses
use Rattle.book_rows.specs.declared.replies.Refusal.{Refusal}
use Rattle.book_rows.specs.declared.rows.Book.{Book}
use Rattle.book_rows.specs.declared.rows.TaskRow.{TaskRow}
use Rattle.book_rows.specs.declared.rows.Want.{Want}
use Rattle.lockbox.specs.Decided.{IsAnswer, decided_lock}
use Rattle.book_core.specs.Decisions.{decided_outcome}
use Rattle.book_core.specs.Done.{IsDone}
use Rattle.book_core.proofs.Conditions.{lock_was_decided}
use Rattle.book_core.proofs.Deciding.{lock_is}
use Rattle.book_core.proofs.Refusing.{lock_why, refusal_done}
use Rattle.book_core.proofs.tables.Core.lock.Goals as goal

pub locked_with-requires : goal.locked_with-requires
locked_with-requires c =
    let fits : SFits w64 c.args.now = c.ranges.now in
    let b : Book = c.args.self.now in
    let t : TaskRow = c.in-Some.row.now in
    let w : Want = record { lock_kind = c.args.lock_kind; span = c.args.span } in
    let answer : decided_lock b.posses (counters_at b c.args.now) t w ≡ Ok c.in-Ok.lock = simp to_z-of_z at c.in-Ok.ensures in
    lock_was_decided b c.args.now t w c.args.task.now c.in-Ok.lock c.requires.sound c.requires.instant c.in-Some.ensures.of_task answer

pub returns-in-Ok : goal.returns-in-Ok
returns-in-Ok c =
    let fits : SFits w64 c.args.now = c.ranges.now in
    let b : Book = c.args.self.now in
    let t : TaskRow = c.in-Some.row.now in
    let w : Want = record { lock_kind = c.args.lock_kind; span = c.args.span } in
    let answer : decided_lock b.posses (counters_at b c.args.now) t w ≡ Ok c.in-Ok.lock = simp to_z-of_z at c.in-Ok.ensures in
    let on : t.status ≡ Statuses.Running = search rules in
    let rule = lock_is b w c.args.now (task_of c.args.task.now b.tasks) t c.args.task.now c.requires.sound c.in-Some.ensures.row c.in-Some.ensures.of_task on in
    subst (λ (o : rules_of.Outcome). IfOk c.locked_with.result (λ d. IsDone d c.locked_with.new.self o))
    (sym (rule ∙ ap (λ (r : Result GrantedLock Refusal). decided_outcome r b c.args.task.now) answer))
    c.locked_with.ensures

pub returns-in_ok-lock_refusal-in-Err : goal.returns-in_ok-lock_refusal-in-Err
returns-in_ok-lock_refusal-in-Err c =
    let fits : SFits w64 c.args.now = c.ranges.now in
    let b : Book = c.args.self.now in
    let t : TaskRow = c.in-Some.row.now in
    let w : Want = record { lock_kind = c.args.lock_kind; span = c.args.span } in
    let answer : Result GrantedLock Refusal = decided_lock b.posses (counters_at b c.args.now) t w in
    let is : IsAnswer (Err c.in-Err.fault) answer = simp to_z-of_z at c.in-Err.ensures in
    let on : t.status ≡ Statuses.Running = search rules in
    let rule = lock_is b w c.args.now (task_of c.args.task.now b.tasks) t c.args.task.now c.requires.sound c.in-Some.ensures.row c.in-Some.ensures.of_task on in
    let why = lock_why c.in-Err.fault c.in_ok-lock_refusal-in-Err.field-0 answer is c.in_ok-lock_refusal-in-Err.ensures in
    subst (λ (o : rules_of.Outcome). IsDone c.refused-in-Err.result b o)
    (sym (rule ∙ ap (λ (r : Result GrantedLock Refusal). decided_outcome r b c.args.task.now) why))
    (refusal_done c.refused-in-Err.result b c.in_ok-lock_refusal-in-Err.field-0 c.refused-in-Err.ensures)
