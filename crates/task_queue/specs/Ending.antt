-- What `may_end` answers, and what the command `end` then comes to.
use Rattle.std.specs.Prelude.{◌≡◌, Bool, Err, List, None, Ok, Option, Result, Some, false, true, ℕ}
use Rattle.book_rows.specs.Outcome.{repeated}
use Rattle.book_rows.specs.TaskSteps.{end_of_task, end_running}
use Rattle.book_rows.specs.declared.kinds.TaskStatus.{TaskStatus}
use Rattle.book_rows.specs.declared.rows.Book.{Book}
use Rattle.book_rows.specs.declared.rows.TaskRow.{TaskRow}
use Rattle.task_queue.specs.Refused.{IsRefused}
use Rattle.task_queue.specs.declared.queue.QueueFault.{QueueFault}
use Rattle.book_rows.specs.declared.kinds.TaskStatus.TheVariants as Statuses
use Rattle.book_rows.specs.declared.replies.Reply.TheVariants as Replies
use Rattle.task_queue.specs.declared.queue.QueueFault.TheVariants as Faults

-- the status so far, and the one to end with: whether the task ends now; false where it has ended so already
abbrev pub end_from : TaskStatus → TaskStatus → Result Bool QueueFault
end_from Statuses.Success Statuses.Success = Ok false
end_from Statuses.Failed Statuses.Failed = Ok false
end_from Statuses.Success status = Err (Faults.Ended Statuses.Success)
end_from Statuses.Failed status = Err (Faults.Ended Statuses.Failed)
end_from Statuses.Waiting Statuses.Success = Err (Faults.NotRunning Statuses.Waiting)
end_from _ status = Ok true

-- the same, by the task's row
abbrev pub end_answer : Option TaskRow → TaskStatus → Result Bool QueueFault
end_answer None status = Err Faults.Unknown
end_answer (Some t) status = end_from t.status status

-- the command for the task on the book b, by the row that the task has: the ending at true, the repeat at false, else the refusal of the error's name
abbrev pub EndsAs : Result Bool QueueFault → List ℕ → Option TaskRow → Book → TaskStatus → Type 0
EndsAs (Ok true) task row b status = (t : TaskRow) × (row ≡ Some t) × (t.task ≡ task) × (end_of_task row b status ≡ end_running b t status)
EndsAs (Ok false) task row b status = end_of_task row b status ≡ repeated b (Replies.End status task)
EndsAs (Err why) task row b status = IsRefused why b (end_of_task row b status)
