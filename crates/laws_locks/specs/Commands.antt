-- The laws of the commands on tasks and locks.
use Rattle.std.specs.Prelude.{◌++◌, ◌≡◌, Bool, List, Option, false, true, ℕ, ℤ}
use Rattle.std.specs.List.{list_all}
use Rattle.iv_span.specs.Extent.{Extent}
use Rattle.iv_time.specs.declared.granularity.Granularity.{Granularity}
use Rattle.seg_names.specs.declared.seg_id.SegId.{SegId}
use Rattle.book_rows.specs.Answer.{next}
use Rattle.book_rows.specs.Form.{KeepsForm}
use Rattle.book_rows.specs.Grant.{moment}
use Rattle.book_rows.specs.Rules.{AreRooted}
use Rattle.book_rows.specs.Shape.{is_pending_row, is_segment_row}
use Rattle.book_rows.specs.Ticks.{ticked}
use Rattle.book_rows.specs.declared.commands.Command.{Command}
use Rattle.book_rows.specs.declared.kinds.LockKind.{LockKind}
use Rattle.book_rows.specs.declared.kinds.TaskKind.{TaskKind}
use Rattle.book_rows.specs.declared.kinds.TaskStatus.{TaskStatus}
use Rattle.book_rows.specs.declared.rows.Book.{Book}
use Rattle.book_rows.specs.declared.rows.TaskRow.{TaskRow}
use Rattle.book_rows.specs.declared.rows.Want.{Want}
use Rattle.book_rows.specs.declared.commands.Command.TheVariants as Commands
use Rattle.laws_locks.specs.LockShape.{AreTaskRows, HasSoundLocks}

-- a command that keeps its form leads from a book with sound locks to one
abbrev pub KeepsLocks : Command → Type 0
KeepsLocks c = (b : Book) → KeepsForm c → HasSoundLocks b → HasSoundLocks (next b c)

abbrev pub SubmitKeepsLocks : Type 0
SubmitKeepsLocks = (task group source : List ℕ) (kind : TaskKind) (priority : ℕ) (locks : List Want) → KeepsLocks (Commands.Submit task group source kind priority locks)

abbrev pub ManageKeepsLocks : Type 0
ManageKeepsLocks = (now : ℤ) → KeepsLocks (Commands.Manage now)

abbrev pub LockKeepsLocks : Type 0
LockKeepsLocks = (task : List ℕ) (kind : LockKind) (span : Extent) (now : ℤ) → KeepsLocks (Commands.Lock task kind span now)

abbrev pub UnlockKeepsLocks : Type 0
UnlockKeepsLocks = (task : List ℕ) (lock : ℕ) → KeepsLocks (Commands.Unlock task lock)

abbrev pub EndKeepsLocks : Type 0
EndKeepsLocks = (task : List ℕ) (status : TaskStatus) → KeepsLocks (Commands.End task status)

-- a command without a law of its own here: it publishes, resets, supervises, reports or asks
abbrev pub is_other : Command → Bool
is_other (Commands.Submit task group source kind priority locks) = false
is_other (Commands.Manage now) = false
is_other (Commands.Lock task lock_kind span now) = false
is_other (Commands.Unlock task lock) = false
is_other (Commands.Allocate task lock_kind sequence previous at granularity now) = false
is_other (Commands.End task status) = false
is_other (Commands.Tick now) = false
is_other (Commands.Append task ids ranges) = true
is_other (Commands.Insert task spans ids tombstones ranges) = true
is_other (Commands.Replace task spans ids tombstones ranges) = true
is_other (Commands.Drop source span) = true
is_other (Commands.Reset source stream offsets) = true
is_other (Commands.Supervise source stream partitions task_count replicas task_duration completion_timeout) = true
is_other (Commands.Paused task offsets) = true
is_other (Commands.Checkpoint task offsets) = true
is_other (Commands.ToReplace task span) = true
is_other (Commands.Show what) = true

abbrev pub OthersKeepLocks : Type 0
OthersKeepLocks = (c : Command) → is_other c ≡ true → KeepsLocks c

-- ---- allocating reads more of the book

-- ids are within their limits, and each pending has its root and a valid lock of its source that contains the root's span
pub record HasPlaces (b : Book) : Type 0 where
  pub segments : list_all is_segment_row b.segments ≡ true
  pub pendings : list_all is_pending_row b.pendings ≡ true
  pub rooted : AreRooted b.posses b.pendings

abbrev pub AllocateKeepsLocks : Type 0
AllocateKeepsLocks = (task : List ℕ) (kind : LockKind) (sequence : List ℕ) (previous : Option SegId) (at : ℤ) (granularity : Granularity) (now : ℤ) (b : Book) → KeepsForm (Commands.Allocate task kind sequence previous at granularity now)
    → HasPlaces b → HasSoundLocks b → HasSoundLocks (next b (Commands.Allocate task kind sequence previous at granularity now))

-- ---- a step of the clock adds tasks

-- the tasks that it adds: those of the sequences that it opens
abbrev pub ticked_tasks : Book → ℤ → List TaskRow
ticked_tasks b now = (ticked b.offsets (moment b now) b.supervisors b.sequences).told.submitted

-- where the tasks and those that it adds are within their limits and of distinct ids
abbrev pub TickKeepsLocks : Type 0
TickKeepsLocks = (now : ℤ) (b : Book) → KeepsForm (Commands.Tick now) → AreTaskRows (b.tasks ++ ticked_tasks b now) → HasSoundLocks b → HasSoundLocks (next b (Commands.Tick now))
