-- Which refusal an error is.
use Rattle.std.specs.Prelude.{◌≡◌}
use Rattle.book_rows.specs.Outcome.{Outcome, refused}
use Rattle.book_rows.specs.declared.rows.Book.{Book}
use Rattle.task_queue.specs.declared.queue.QueueFault.{QueueFault}
use Rattle.book_rows.specs.declared.replies.Refusal.TheVariants as Refusals
use Rattle.task_queue.specs.declared.queue.QueueFault.TheVariants as Faults

-- the outcome on the book b is the refusal of this name; want of memory is none and says nothing
abbrev pub IsRefused : QueueFault → Book → Outcome → Type 0
IsRefused Faults.Unknown b o = o ≡ refused b Refusals.TaskUnknown
IsRefused Faults.Exists b o = o ≡ refused b Refusals.TaskExists
IsRefused (Faults.NotRunning status) b o = o ≡ refused b (Refusals.TaskNotRunning status)
IsRefused (Faults.Ended status) b o = o ≡ refused b (Refusals.TaskEnded status)
IsRefused (Faults.Full table) b o = o ≡ refused b (Refusals.TableFull table)
IsRefused Faults.OutOfMemory b o = Unit {0}
