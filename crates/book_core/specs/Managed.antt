-- The waiting tasks, started one after another, each by its id.
use Rattle.std.specs.Prelude.{◌++◌, ◌∷◌, List, None, Option, Some, [], ℕ, ℤ}
use Rattle.book_rows.specs.Grant.{book_granted}
use Rattle.book_rows.specs.Outcome.{task_of}
use Rattle.book_rows.specs.TaskSteps.{Managed, managed_one, with_status}
use Rattle.book_rows.specs.declared.answers.Granted.{Granted}
use Rattle.book_rows.specs.declared.kinds.TaskStatus.TheVariants as Statuses
use Rattle.book_rows.specs.declared.rows.Book.{Book}
use Rattle.book_rows.specs.declared.rows.TaskRow.{TaskRow}
use Rattle.book_core.specs.declared.managing.Told.{Told}

-- the book so far, and the tasks that are told
abbrev pub managed_with : Book → Told → Managed
managed_with b told = record { book = b; running = told.running; waiting = told.waiting }

-- the task of this id runs with what it is granted, or else waits on
abbrev pub started_with : Option Granted → List ℕ → Managed → Managed
started_with None task m = record m { waiting = m.waiting ++ task ∷ [] }
started_with (Some g) task m = record m { book = with_status task Statuses.Running (book_granted m.book task g); running = m.running ++ task ∷ [] }

-- the task of the row, where there is one
abbrev pub managed_named : ℤ → Option TaskRow → Managed → Managed
managed_named now None m = m
managed_named now (Some t) m = managed_one now t m

-- the tasks of these ids, each by its row in the book so far
abbrev pub managed_ids : ℤ → List (List ℕ) → Managed → Managed
managed_ids now [] m = m
managed_ids now (task ∷ rest) m = managed_ids now rest (managed_named now (task_of task m.book.tasks) m)
