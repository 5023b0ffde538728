-- The laws of the small changes of a book.
use Rattle.std.specs.Prelude.{◌≡◌, List, None, Ok, false, true, ℕ, ℤ}
use Rattle.std.specs.List.{list_all}
use Rattle.book_rows.specs.Form.{is_want}
use Rattle.book_rows.specs.Grant.{book_granted, counters_at, grant_all}
use Rattle.book_rows.specs.Lists.{In}
use Rattle.book_rows.specs.Locks.{is_member, left_all_locks, left_lock}
use Rattle.book_rows.specs.Outcome.{no_room}
use Rattle.book_rows.specs.Shape.{HasShape}
use Rattle.book_rows.specs.TaskSteps.{with_status}
use Rattle.book_rows.specs.declared.answers.Granted.{Granted}
use Rattle.book_rows.specs.declared.kinds.Table.TheVariants as Tables
use Rattle.book_rows.specs.declared.kinds.TaskStatus.{TaskStatus}
use Rattle.book_rows.specs.declared.kinds.TaskStatus.TheVariants as Statuses
use Rattle.book_rows.specs.declared.rows.Book.{Book}
use Rattle.book_rows.specs.declared.rows.PosseRow.{PosseRow}
use Rattle.book_rows.specs.declared.rows.TaskRow.{TaskRow}
use Rattle.book_rows.specs.declared.rows.Want.{Want}
use Rattle.iv_time.specs.Range.{is_instant}
use Rattle.std.specs.Prelude.{◌∷◌, []}
use Rattle.laws_locks.specs.LockShape.{HasSoundLocks, IsLockShape}

-- the shape of a book holds that of its tasks and locks
abbrev pub ShapeHasLockShape : Type 0
ShapeHasLockShape = (b : Book) → HasShape b → IsLockShape b

-- whichever task leaves whichever lock
abbrev pub LeaveKeepsLocks : Type 0
LeaveKeepsLocks = (lock : ℕ) (task : List ℕ) (b : Book) → HasSoundLocks b → HasSoundLocks (left_lock lock task b)

-- the book after a task left all its locks and got another status
abbrev pub ended_task : List ℕ → TaskStatus → Book → Book
ended_task task status b = with_status task status (left_all_locks task b)

-- it is a member of no lock any more, valid or revoked
abbrev pub IsMemberOfNone : List ℕ → Book → Type 0
IsMemberOfNone task b = (q : PosseRow) → In q b.posses → is_member task q ≡ false

abbrev pub FailKeepsLocks : Type 0
FailKeepsLocks = (task : List ℕ) (status : TaskStatus) (b : Book) → HasSoundLocks b → HasSoundLocks (ended_task task status b) × IsMemberOfNone task (ended_task task status b)

-- whatever is granted to a running task of the book, at whatever instant, where the tables have room for it
abbrev pub GrantKeepsLocks : Type 0
GrantKeepsLocks = (b : Book) (t : TaskRow) (wants : List Want) (now : ℤ) (g : Granted) → HasSoundLocks b → In t b.tasks → t.status ≡ Statuses.Running → list_all is_want wants ≡ true → is_instant now ≡ true
    → grant_all b.posses (counters_at b now) t wants ≡ Ok g → no_room (Tables.Locks ∷ Tables.Numbers ∷ []) (book_granted b t.task g) ≡ None → HasSoundLocks (book_granted b t.task g)
