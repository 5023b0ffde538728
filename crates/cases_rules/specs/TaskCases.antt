-- Tasks: submitting, starting and ending.
use Rattle.std.specs.Prelude.{◌++◌, ◌∷◌, ◌≡◌, List, [], codes, false, true, ℕ, ℤ}
use Rattle.iv_span.specs.Extent.{Extent}
use Rattle.book_rows.specs.Form.{AllKeepForm}
use Rattle.scenes.specs.Script.{Answers, b, c, day, fail, lock, next_day, now, now1, now2, refuse, start, submit, succeed, v0, w, x, y}
use Rattle.book_rows.specs.Answer.{book_after, changes, empty_book, next}
use Rattle.book_rows.specs.Kinds.{default_priority}
use Rattle.book_rows.specs.declared.commands.Command.{Command}
use Rattle.book_rows.specs.declared.kinds.LockKind.{LockKind}
use Rattle.book_rows.specs.declared.kinds.TaskKind.{TaskKind}
use Rattle.book_rows.specs.declared.kinds.TaskStatus.{TaskStatus}
use Rattle.book_rows.specs.declared.replies.LockLine.{LockLine}
use Rattle.book_rows.specs.declared.replies.TaskLine.{TaskLine}
use Rattle.book_rows.specs.declared.rows.Want.{Want}
use Rattle.book_rows.specs.declared.commands.Command.TheVariants as Commands
use Rattle.book_rows.specs.declared.kinds.LockKind.TheVariants as LockKinds
use Rattle.book_rows.specs.declared.replies.Refusal.TheVariants as Refusals
use Rattle.book_rows.specs.declared.replies.Reply.TheVariants as Replies
use Rattle.book_rows.specs.declared.kinds.TaskStatus.TheVariants as Statuses
use Rattle.book_rows.specs.declared.kinds.TaskKind.TheVariants as TaskKinds
use Rattle.book_rows.specs.declared.commands.What.TheVariants as Whats

-- a task that wants locks
abbrev pub submit_wanting : List ℕ → TaskKind → List Want → Command
submit_wanting task kind wants = Commands.Submit task task w kind (default_priority kind) wants

abbrev pub wants : LockKind → Extent → Want
wants kind span = record { lock_kind = kind; span = span }

-- ---- statuses

abbrev pub status_lines : List Command
status_lines =
    submit x TaskKinds.Batch
    ∷ submit x TaskKinds.Batch
    ∷ lock x LockKinds.Exclusive day
    ∷ succeed x
    ∷ fail x
    ∷ fail x
    ∷ succeed x
    ∷ fail y
    ∷ submit (codes "index_parallel_w_odofhkle_2024-03-01T00:00:00.000Z") TaskKinds.Batch
    ∷ []

abbrev pub TaskEnds : Type 0
TaskEnds =
    Answers [] status_lines
    (Replies.Submit Statuses.Waiting x
    ∷ refuse Refusals.TaskExists
    ∷ refuse (Refusals.TaskNotRunning Statuses.Waiting)
    ∷ refuse (Refusals.TaskNotRunning Statuses.Waiting)
    ∷ Replies.End Statuses.Failed x
    ∷ Replies.End Statuses.Failed x
    ∷ refuse (Refusals.TaskEnded Statuses.Failed)
    ∷ refuse Refusals.TaskUnknown
    ∷ Replies.Submit Statuses.Waiting (codes "index_parallel_w_odofhkle_2024-03-01T00:00:00.000Z")
    ∷ [])

abbrev pub TaskLinesWellFormed : Type 0
TaskLinesWellFormed = AllKeepForm status_lines

-- ---- a task gets all its locks or none

abbrev pub two_holders : List Command
two_holders =
    start b TaskKinds.Batch
    ++ (start c TaskKinds.Compaction ++ lock b LockKinds.Exclusive next_day ∷ lock c LockKinds.Exclusive day ∷ [])

abbrev pub wanting_both : List Command
wanting_both =
    two_holders ++ submit_wanting x TaskKinds.Batch (wants LockKinds.Exclusive day ∷ wants LockKinds.Exclusive next_day ∷ []) ∷ []

abbrev pub line_of : ℕ → List ℕ → ℕ → Extent → ℤ → LockLine
line_of number task priority span version = record {
  group = task;
  lock = number;
  members = task ∷ [];
  priority = priority;
  revoked = false;
  source = w;
  span = span;
  lock_kind = LockKinds.Exclusive;
  version = version;
}

-- the second want is refused, so the first revokes nothing, and the next lock has the number and version after the two
abbrev pub AllLocksOrNone : Type 0
AllLocksOrNone =
    Answers wanting_both
    (Commands.Manage now
    ∷ Commands.Show Whats.Locks
    ∷ lock c LockKinds.Exclusive day
    ∷ succeed b
    ∷ Commands.Manage now
    ∷ [])
    (Replies.Manage [] (x ∷ [])
    ∷ Replies.Locks (line_of 1 b 50 next_day now ∷ line_of 2 c 25 day now1 ∷ [])
    ∷ Replies.Lock 2 [] day now1
    ∷ Replies.End Statuses.Success b
    ∷ Replies.Manage (x ∷ []) []
    ∷ [])

-- a manage that starts nothing changes the book: it sets the clock
abbrev pub ManageSetsClock : Type 0
ManageSetsClock = (changes (book_after empty_book wanting_both) (Commands.Manage now2) ≡ true) × ((next (book_after empty_book wanting_both) (Commands.Manage now2)).clock ≡ now2)

-- and where its moment is before the clock, the clock stays
abbrev pub ClockNeverFalls : Type 0
ClockNeverFalls = (next (book_after empty_book wanting_both) (Commands.Manage v0)).clock ≡ now

abbrev pub task_line_of : List ℕ → ℕ → TaskStatus → TaskLine
task_line_of task priority status = record { group = task; priority = priority; source = w; status = status; task = task }

abbrev pub TasksAreShown : Type 0
TasksAreShown =
    Answers wanting_both (Commands.Show Whats.Tasks ∷ [])
    (Replies.Tasks (task_line_of b 50 Statuses.Running ∷ task_line_of c 25 Statuses.Running ∷ task_line_of x 50 Statuses.Waiting ∷ []) ∷ [])
