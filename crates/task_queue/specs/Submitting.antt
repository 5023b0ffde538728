-- What `submit` answers, and what the command of its name then comes to.
use Rattle.std.specs.Prelude.{◌+◌, ◌++◌, ◌∷◌, ◌≡◌, Err, None, Ok, Option, Result, Some, [], cond, nat_lt, ℕ}
use Rattle.book_rows.specs.Outcome.{changed, row_limit, task_of}
use Rattle.book_rows.specs.TaskSteps.{submitted}
use Rattle.book_rows.specs.declared.rows.Book.{Book}
use Rattle.book_rows.specs.declared.rows.TaskRow.{TaskRow}
use Rattle.task_queue.specs.Refused.{IsRefused}
use Rattle.task_queue.specs.declared.queue.QueueFault.{QueueFault}
use Rattle.book_rows.specs.declared.kinds.Table.TheVariants as Tables
use Rattle.book_rows.specs.declared.kinds.TaskStatus.TheVariants as Statuses
use Rattle.book_rows.specs.declared.replies.Reply.TheVariants as Replies
use Rattle.task_queue.specs.declared.queue.QueueFault.TheVariants as Faults

-- the row as a task is submitted
abbrev pub as_waiting : TaskRow → TaskRow
as_waiting row = record row { status = Statuses.Waiting }

-- why a row isn't added, by the row of its id and the number of rows; none where it is
abbrev pub submit_fault : Option TaskRow → ℕ → Option QueueFault
submit_fault (Some t) count = Some Faults.Exists
submit_fault None count = cond (nat_lt row_limit (count + 1)) (Some (Faults.Full Tables.Tasks)) None

-- the result is the error where there is one; else it is Ok, or memory ran out
abbrev pub HasAnswered : {X : Type 0} → Result X QueueFault → Option QueueFault → Type 0
HasAnswered (Ok x) fault = fault ≡ None
HasAnswered (Err Faults.OutOfMemory) fault = fault ≡ None
HasAnswered (Err why) fault = fault ≡ Some why

-- the command on the book b comes to the row's adding at Ok, and else to the refusal of the error's name
abbrev pub SubmitsAs : {X : Type 0} → Result X QueueFault → Book → TaskRow → Type 0
SubmitsAs (Ok x) b row = submitted (task_of row.task b.tasks) b row ≡ changed (record b { tasks = b.tasks ++ row ∷ [] }) (Replies.Submit Statuses.Waiting row.task)
SubmitsAs (Err why) b row = IsRefused why b (submitted (task_of row.task b.tasks) b row)
