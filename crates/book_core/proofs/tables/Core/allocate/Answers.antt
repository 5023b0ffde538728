use Rattle.std.proofs.Common.{◌≡◌, ◌∙◌, Err, IfOk, List, None, Ok, Option, Result, Some, ap, rules, subst, sym, ℕ}
use Rattle.seg_names.specs.declared.seg_id.SegId.{SegId}
use Rattle.book_rows.specs.Allocation.{known_pending}
use Rattle.book_rows.specs.LockSteps.{IdRequest, allocated}
use Rattle.book_rows.specs.Outcome as rules_of
use Rattle.book_rows.specs.Outcome.{task_of}
use Rattle.book_rows.specs.declared.kinds.TaskStatus.TheVariants as Statuses
use Rattle.book_rows.specs.declared.replies.Refusal.{Refusal}
use Rattle.book_rows.specs.declared.rows.Book.{Book}
use Rattle.book_rows.specs.declared.rows.PendingRow.{PendingRow}
use Rattle.book_rows.specs.declared.rows.TaskRow.{TaskRow}
use Rattle.seg_alloc.specs.Answers.{IsKnown, known_answer}
use Rattle.book_core.specs.Allocations.{id_outcome, join_id, new_id, request_of}
use Rattle.book_core.specs.Done.{IsDone}
use Rattle.book_core.specs.declared.allocating.NewId.{NewId}
use Rattle.book_core.proofs.NewIds.{all_made, is_unknown, known_is, known_refused, lock_is_there, new_is}
use Rattle.book_core.proofs.Deciding.{run_is}
use Rattle.book_core.proofs.Conditions.{have_shape}
use Rattle.book_core.proofs.Refusing.{known_why, refusal_done}
use Rattle.book_core.proofs.tables.Core.allocate.Goals as goal

pub join_id-requires : goal.join_id-requires
join_id-requires c =
    let b : Book = c.args.self.now in
    let t : TaskRow = c.in-Some.row.now in
    let r : IdRequest = request_of c.args.request.now in
    let o : Option PendingRow = known_pending b.pendings t.source r.sequence r.previous in
    let is : known_answer o b.posses t r.lock_kind r.at ≡ Ok (Some (c.in-Ok-Some.id, c.in-Ok-Some.lock)) =
    subst (λ (x : Option (SegId × ℕ)). known_answer o b.posses t r.lock_kind r.at ≡ Ok x) c.in-Ok-Some.field-0-is c.in-Ok-Some.ensures in
    lock_is_there b.posses t r.lock_kind r.at o c.in-Ok-Some.id c.in-Ok-Some.lock is

pub returns-in-Ok-Some : goal.returns-in-Ok-Some
returns-in-Ok-Some c =
    let b : Book = c.args.self.now in
    let t : TaskRow = c.in-Some.row.now in
    let r : IdRequest = request_of c.args.request.now in
    let o : Option PendingRow = known_pending b.pendings t.source r.sequence r.previous in
    let is : known_answer o b.posses t r.lock_kind r.at ≡ Ok (Some (c.in-Ok-Some.id, c.in-Ok-Some.lock)) =
    subst (λ (x : Option (SegId × ℕ)). known_answer o b.posses t r.lock_kind r.at ≡ Ok x) c.in-Ok-Some.field-0-is c.in-Ok-Some.ensures in
    let on : t.status ≡ Statuses.Running = search rules in
    let rule = run_is (task_of c.args.task.now b.tasks) t b (allocated b r) c.in-Some.ensures.row on in
    let own : allocated b r t ≡ join_id b r.now t.task c.in-Ok-Some.id c.in-Ok-Some.lock = known_is b r t o c.in-Ok-Some.id c.in-Ok-Some.lock is in
    subst (λ (x : rules_of.Outcome). IfOk c.join_id.result (λ d. IsDone d c.join_id.new.self x))
    (sym (rule ∙ own ∙ ap (λ (task : List ℕ). join_id b r.now task c.in-Ok-Some.id c.in-Ok-Some.lock) c.in-Some.ensures.of_task))
    c.join_id.ensures

pub done_id-requires-clause-made : goal.done_id-requires-clause-made
done_id-requires-clause-made c =
    let b : Book = c.args.self.now in
    let t : TaskRow = c.in-Some.row.now in
    let r : IdRequest = request_of c.args.request.now in
    all_made b r t c.args.task.now c.in_ok-decided-in-Ok-None.decided (have_shape b c.requires.sound) c.requires.instant c.in-Some.ensures.of_task c.in_ok-decided-in-Ok-None.ensures

pub returns-in_ok-decided-in-Ok-None : goal.returns-in_ok-decided-in-Ok-None
returns-in_ok-decided-in-Ok-None c =
    let b : Book = c.args.self.now in
    let t : TaskRow = c.in-Some.row.now in
    let r : IdRequest = request_of c.args.request.now in
    let o : Option PendingRow = known_pending b.pendings t.source r.sequence r.previous in
    let is : known_answer o b.posses t r.lock_kind r.at ≡ Ok None =
    subst (λ (x : Option (SegId × ℕ)). known_answer o b.posses t r.lock_kind r.at ≡ Ok x) c.in-Ok-None.field-0-is c.in-Ok-None.ensures in
    let on : t.status ≡ Statuses.Running = search rules in
    let rule = run_is (task_of c.args.task.now b.tasks) t b (allocated b r) c.in-Some.ensures.row on in
    let own : allocated b r t ≡ id_outcome (new_id b r t) b t.task = new_is b r t (have_shape b c.requires.sound) (is_unknown o b.posses t r.lock_kind r.at is) in
    subst (λ (x : rules_of.Outcome). IfOk c.done_id.result (λ d. IsDone d c.done_id.new.self x))
    (sym (rule ∙ own ∙ ap (λ (task : List ℕ). id_outcome (new_id b r t) b task) c.in-Some.ensures.of_task ∙ ap (λ (x : Result NewId Refusal). id_outcome x b c.args.task.now) (sym c.in_ok-decided-in-Ok-None.ensures)))
    c.done_id.ensures

pub returns-in_ok-known_refusal-in-Err : goal.returns-in_ok-known_refusal-in-Err
returns-in_ok-known_refusal-in-Err c =
    let b : Book = c.args.self.now in
    let t : TaskRow = c.in-Some.row.now in
    let r : IdRequest = request_of c.args.request.now in
    let o : Option PendingRow = known_pending b.pendings t.source r.sequence r.previous in
    let answer : Result (Option (SegId × ℕ)) Refusal = known_answer o b.posses t r.lock_kind r.at in
    let is : IsKnown (Err c.in-Err.fault) answer = c.in-Err.ensures in
    let on : t.status ≡ Statuses.Running = search rules in
    let rule = run_is (task_of c.args.task.now b.tasks) t b (allocated b r) c.in-Some.ensures.row on in
    let why : answer ≡ Err c.in_ok-known_refusal-in-Err.field-0 = known_why c.in-Err.fault c.in_ok-known_refusal-in-Err.field-0 answer is c.in_ok-known_refusal-in-Err.ensures in
    subst (λ (x : rules_of.Outcome). IsDone c.refused-in-Err.result b x)
    (sym (rule ∙ known_refused b r t o c.in_ok-known_refusal-in-Err.field-0 why))
    (refusal_done c.refused-in-Err.result b c.in_ok-known_refusal-in-Err.field-0 c.refused-in-Err.ensures)
