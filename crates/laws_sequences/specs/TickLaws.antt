-- The tasks that a step of the clock adds.
use Rattle.std.specs.Prelude.{◌++◌, ◌≡◌, List, bytes_eq, false, ℤ}
use Rattle.book_rows.specs.Answer.{next}
use Rattle.book_rows.specs.Form.{KeepsForm}
use Rattle.book_rows.specs.Lists.{In}
use Rattle.book_rows.specs.Shape.{AreDistinct, same_task}
use Rattle.book_rows.specs.Sound.{Sound}
use Rattle.book_rows.specs.declared.commands.Command.TheVariants as Commands
use Rattle.book_rows.specs.declared.rows.Book.{Book}
use Rattle.book_rows.specs.declared.rows.TaskRow.{TaskRow}
use Rattle.laws_locks.specs.Commands.{ticked_tasks}
use Rattle.laws_locks.specs.LockShape.{AreTaskRows, HasSoundLocks}
use Rattle.laws_sequences.specs.Links.{AreCounted, AreReplicas, AreSupervised, AreSupervisors}

-- what makes ids new: supervisors and sequences are within their limits, the indexes of a group are counted from 0, and a task
-- that is named as those of a sequence is one
pub record HasOwnIds (b : Book) : Type 0 where
  pub supervisors : AreSupervisors b.supervisors
  pub supervised : AreSupervised b.supervisors b.sequences
  pub counted : AreCounted b.sequences
  pub replicas : AreReplicas b.supervisors b.sequences b.tasks

abbrev pub SoundHasOwnIds : Type 0
SoundHasOwnIds = (b : Book) → Sound b → HasOwnIds b

-- no two tasks that a tick adds have one id, and none has the id of a task that is there
pub record AreNewTasks (ts news : List TaskRow) : Type 0 where
  pub distinct : AreDistinct same_task news
  pub apart : (t new : TaskRow) → In t ts → In new news → bytes_eq t.task new.task ≡ false

abbrev pub TickedIdsAreNew : Type 0
TickedIdsAreNew = (b : Book) (now : ℤ) → AreTaskRows b.tasks → HasOwnIds b → AreNewTasks b.tasks (ticked_tasks b now)

-- the tasks and those that a tick adds are within their limits and of distinct ids
abbrev pub TickedTasksAreRows : Type 0
TickedTasksAreRows = (b : Book) (now : ℤ) → AreTaskRows b.tasks → HasOwnIds b → AreTaskRows (b.tasks ++ ticked_tasks b now)

abbrev pub SoundTickAddsRows : Type 0
SoundTickAddsRows = (b : Book) (now : ℤ) → Sound b → AreTaskRows (b.tasks ++ ticked_tasks b now)

-- so a tick keeps the shape of tasks and locks, and that valid locks are compatible
abbrev pub TickKeepsSoundLocks : Type 0
TickKeepsSoundLocks = (now : ℤ) (b : Book) → KeepsForm (Commands.Tick now) → HasOwnIds b → HasSoundLocks b → HasSoundLocks (next b (Commands.Tick now))
