-- What `submit`, `manage` and `end` make of the book.
use Rattle.std.specs.Prelude.{◌++◌, ◌∷◌, Bool, Err, List, None, Ok, Option, Result, Some, [], bytes_eq, cond, filter, map, ℕ, ℤ}
use Rattle.book_rows.specs.Grant.{book_granted, counters_at, grant_all, moment}
use Rattle.book_rows.specs.Kinds.{same_status}
use Rattle.book_rows.specs.Locks.{left_all_locks}
use Rattle.book_rows.specs.Outcome.{Outcome, changed, fitted, no_room, refused, repeated}
use Rattle.book_rows.specs.Reports.{Ended, ended}
use Rattle.book_rows.specs.declared.answers.Granted.{Granted}
use Rattle.book_rows.specs.declared.kinds.Table.{Table}
use Rattle.book_rows.specs.declared.kinds.TaskKind.{TaskKind}
use Rattle.book_rows.specs.declared.kinds.TaskStatus.{TaskStatus}
use Rattle.book_rows.specs.declared.replies.Refusal.{Refusal}
use Rattle.book_rows.specs.declared.rows.Book.{Book}
use Rattle.book_rows.specs.declared.rows.TaskRow.{TaskRow}
use Rattle.book_rows.specs.declared.rows.Want.{Want}
use Rattle.book_rows.specs.declared.replies.Refusal.TheVariants as Refusals
use Rattle.book_rows.specs.declared.replies.Reply.TheVariants as Replies
use Rattle.book_rows.specs.declared.kinds.TaskStatus.TheVariants as Statuses
use Rattle.book_rows.specs.declared.kinds.Table.TheVariants as Tables

-- ---- submit

abbrev pub waiting_row : List ℕ → List ℕ → List ℕ → TaskKind → ℕ → List Want → TaskRow
waiting_row task group source kind priority wants = record { task = task; group = group; source = source; kind = kind; priority = priority; status = Statuses.Waiting; wants = wants }

abbrev pub submitted : Option TaskRow → Book → TaskRow → Outcome
submitted (Some t) b row = refused b Refusals.TaskExists
submitted None b row = fitted (Tables.Tasks ∷ []) b (record b { tasks = b.tasks ++ row ∷ [] }) (Replies.Submit Statuses.Waiting row.task)

-- ---- manage

-- the row, with another status where it is of this task
abbrev pub status_set : List ℕ → TaskStatus → TaskRow → TaskRow
status_set task status t = record t { status = cond (bytes_eq t.task task) status t.status }

abbrev pub with_status : List ℕ → TaskStatus → Book → Book
with_status task status b = record b { tasks = map (status_set task status) b.tasks }

-- the book so far, and the tasks that run since now or still wait
pub record Managed : Type 0 where
  pub book : Book
  pub running : List (List ℕ)
  pub waiting : List (List ℕ)

abbrev pub still_waits : TaskRow → Managed → Managed
still_waits t m = record m { waiting = m.waiting ++ t.task ∷ [] }

abbrev pub started_by : Option Table → TaskRow → Book → Managed → Managed
started_by (Some table) t after m = still_waits t m
started_by None t after m = record m { book = after; running = m.running ++ t.task ∷ [] }

abbrev pub started : TaskRow → Book → Managed → Managed
started t after m = started_by (no_room (Tables.Locks ∷ Tables.Numbers ∷ []) after) t after m

-- a task that gets all its locks runs; one that doesn't leaves the book as it was
abbrev pub managed_by : Result Granted Refusal → TaskRow → Managed → Managed
managed_by (Err why) t m = still_waits t m
managed_by (Ok g) t m = started t (with_status t.task Statuses.Running (book_granted m.book t.task g)) m

abbrev pub managed_one : ℤ → TaskRow → Managed → Managed
managed_one now t m = managed_by (grant_all m.book.posses (counters_at m.book now) t t.wants) t m

abbrev pub managed_all : ℤ → List TaskRow → Managed → Managed
managed_all now [] m = m
managed_all now (t ∷ ts) m = managed_all now ts (managed_one now t m)

abbrev pub is_waiting : TaskRow → Bool
is_waiting t = same_status t.status Statuses.Waiting

-- the waiting tasks in submit order, each on the book so far
abbrev pub managed : Book → ℤ → Managed
managed b now = managed_all now (filter is_waiting b.tasks) (record { book = record b { clock = moment b now }; running = []; waiting = [] })

abbrev pub manage_outcome : Managed → Outcome
manage_outcome m = changed m.book (Replies.Manage m.running m.waiting)

-- ---- end

-- a task fails and leaves its locks
abbrev pub failed : List ℕ → Book → Book
failed task b = with_status task Statuses.Failed (left_all_locks task b)

abbrev pub all_failed : List (List ℕ) → Book → Book
all_failed [] b = b
all_failed (task ∷ rest) b = all_failed rest (failed task b)

abbrev pub with_ended : Ended → Book → Book
with_ended e b = all_failed e.tasks (record b { sequences = e.sequences })

-- the task's status is set, it leaves its locks, and its sequence looks at who is left
abbrev pub after_end : TaskRow → TaskStatus → Book → Book
after_end t status b = with_ended (ended t.group t.task b.clock b.sequences) (with_status t.task status (left_all_locks t.task b))

abbrev pub end_running : Book → TaskRow → TaskStatus → Outcome
end_running b t status = changed (after_end t status b) (Replies.End status t.task)

-- the status so far, and the one to end with
abbrev pub end_as : TaskStatus → TaskStatus → Book → TaskRow → Outcome
end_as Statuses.Success Statuses.Success b t = repeated b (Replies.End Statuses.Success t.task)
end_as Statuses.Failed Statuses.Failed b t = repeated b (Replies.End Statuses.Failed t.task)
end_as Statuses.Success status b t = refused b (Refusals.TaskEnded Statuses.Success)
end_as Statuses.Failed status b t = refused b (Refusals.TaskEnded Statuses.Failed)
end_as Statuses.Waiting Statuses.Success b t = refused b (Refusals.TaskNotRunning Statuses.Waiting)
end_as _ status b t = end_running b t status

abbrev pub end_of_task : Option TaskRow → Book → TaskStatus → Outcome
end_of_task None b status = refused b Refusals.TaskUnknown
end_of_task (Some t) b status = end_as t.status status b t
