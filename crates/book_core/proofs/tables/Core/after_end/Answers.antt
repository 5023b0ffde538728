use Rattle.std.proofs.Common.{◌≡◌, ◌∙◌, IsSome, List, OnOk, Option, ap, subst, sym, ℕ}
use Rattle.book_rows.specs.Locks.{left_all_locks}
use Rattle.book_rows.specs.Outcome.{task_of}
use Rattle.book_rows.specs.TaskSteps.{after_end, all_failed, with_status}
use Rattle.book_rows.specs.declared.rows.Book.{Book}
use Rattle.book_rows.specs.declared.rows.TaskRow.{TaskRow}
use Rattle.book_core.specs.Ends.{ended_by_row}
use Rattle.book_core.proofs.Leaving.{all_left, end_is}
use Rattle.book_core.proofs.tables.Core.after_end.Goals as goal

pub with_status-requires : goal.with_status-requires
with_status-requires c =
    let b : Book = c.args.self.now in
    let b1 : Book = record b { sequences = (ended_by_row (task_of c.args.task.now b.tasks) b).sequences } in
    subst (λ (x : Book). IsSome (task_of c.args.task.now x.tasks))
    (sym (c.in_ok-left_all_locks.ensures ∙ ap (left_all_locks c.args.task.now) c.in_ok-failing.ensures.rows ∙ all_left c.args.task.now b1)) c.requires

pub returns : goal.returns
returns c = λ t found own.
    let b : Book = c.args.self.now in
    let task : List ℕ = c.args.task.now in
    let o : Option TaskRow = task_of task b.tasks in
    let same : all_failed c.in_ok-failing.failing.items c.with_status.new.self ≡ after_end t c.args.status b =
    ap (λ (x : Book). all_failed c.in_ok-failing.failing.items x)
    (c.with_status.ensures ∙ ap (λ (x : Book). with_status task c.args.status x) (c.in_ok-left_all_locks.ensures ∙ ap (left_all_locks task) c.in_ok-failing.ensures.rows))
    ∙ ap (λ (tasks : List (List ℕ)). all_failed tasks (with_status task c.args.status (left_all_locks task (record b { sequences = (ended_by_row o b).sequences })))) c.in_ok-failing.ensures.tasks
    ∙ end_is t c.args.status b task o found own in
    subst (λ (x : Book). OnOk c.all_failed.result (c.all_failed.new.self ≡ x)) same c.all_failed.ensures
