-- What a task's status and the status to end with come to.
use Rattle.std.proofs.Common.{◌∙◌, ◌≡◌, Bool, Err, List, Ok, Result, Some, ap, false, refl, true, ℕ}
use Rattle.book_rows.specs.Outcome.{repeated}
use Rattle.book_rows.specs.TaskSteps.{end_as, end_running}
use Rattle.book_rows.specs.declared.kinds.TaskStatus.{TaskStatus}
use Rattle.book_rows.specs.declared.rows.Book.{Book}
use Rattle.book_rows.specs.declared.rows.TaskRow.{TaskRow}
use Rattle.task_queue.specs.Ending.{EndsAs, end_from}
use Rattle.task_queue.specs.Refused.{IsRefused}
use Rattle.task_queue.specs.declared.queue.QueueFault.{QueueFault}
use Rattle.book_rows.specs.declared.kinds.TaskStatus.TheVariants as Statuses
use Rattle.book_rows.specs.declared.replies.Reply.TheVariants as Replies

-- as `EndsAs`, of a task that is there and has the status old
abbrev EndsFrom : Result Bool QueueFault → TaskStatus → Book → TaskRow → TaskStatus → Type 0
EndsFrom (Ok true) old b t status = end_as old status b t ≡ end_running b t status
EndsFrom (Ok false) old b t status = end_as old status b t ≡ repeated b (Replies.End status t.task)
EndsFrom (Err why) old b t status = IsRefused why b (end_as old status b t)

ends_from : (old status : TaskStatus) (b : Book) (t : TaskRow) → EndsFrom (end_from old status) old b t status
ends_from Statuses.Waiting Statuses.Waiting b t = refl
ends_from Statuses.Waiting Statuses.Running b t = refl
ends_from Statuses.Waiting Statuses.Success b t = refl
ends_from Statuses.Waiting Statuses.Failed b t = refl
ends_from Statuses.Running status b t = refl
ends_from Statuses.Success Statuses.Waiting b t = refl
ends_from Statuses.Success Statuses.Running b t = refl
ends_from Statuses.Success Statuses.Success b t = refl
ends_from Statuses.Success Statuses.Failed b t = refl
ends_from Statuses.Failed Statuses.Waiting b t = refl
ends_from Statuses.Failed Statuses.Running b t = refl
ends_from Statuses.Failed Statuses.Success b t = refl
ends_from Statuses.Failed Statuses.Failed b t = refl

as_ended : (r : Result Bool QueueFault) (task : List ℕ) (t : TaskRow) (b : Book) (status : TaskStatus) → t.task ≡ task → EndsFrom r t.status b t status → EndsAs r task (Some t) b status
as_ended (Ok true) task t b status own h = (t, refl, own, h)
as_ended (Ok false) task t b status own h = h ∙ ap (λ (id : List ℕ). repeated b (Replies.End status id)) own
as_ended (Err why) task t b status own h = h

pub ends_as : (task : List ℕ) (t : TaskRow) (b : Book) (status : TaskStatus) → t.task ≡ task → EndsAs (end_from t.status status) task (Some t) b status
ends_as task t b status own = as_ended (end_from t.status status) task t b status own (ends_from t.status status b t)
