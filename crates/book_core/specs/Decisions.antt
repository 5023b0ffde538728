-- What comes of requests for locks, where the room is decided with them.
use Rattle.std.specs.Prelude.{◌≡◌, Bool, Err, List, None, Ok, Option, Result, Some, false, true, ℕ}
use Rattle.book_rows.specs.Grant.{book_granted}
use Rattle.book_rows.specs.LockSteps.{lock_reply}
use Rattle.book_rows.specs.Outcome.{Outcome, changed, refused_or}
use Rattle.book_rows.specs.declared.answers.Granted.{Granted}
use Rattle.book_rows.specs.declared.answers.GrantedLock.{GrantedLock}
use Rattle.book_rows.specs.declared.replies.Refusal.{Refusal}
use Rattle.book_rows.specs.declared.rows.Book.{Book}
use Rattle.lockbox.specs.declared.fault.LockFault.{LockFault}
use Rattle.lockbox.specs.declared.fault.LockFault.TheVariants as LockFaults

-- ---- lock

-- what comes of a lock that is granted to a task
abbrev pub granted_outcome : Book → List ℕ → GrantedLock → Outcome
granted_outcome b task lock = changed (book_granted b task lock.granted) (lock_reply lock)

abbrev pub decided_outcome : Result GrantedLock Refusal → Book → List ℕ → Outcome
decided_outcome o b task = refused_or o b (granted_outcome b task)

-- ---- manage

abbrev pub is_memory : LockFault → Bool
is_memory LockFaults.OutOfMemory = true
is_memory (LockFaults.Revoked by) = false
is_memory (LockFaults.Conflict by) = false
is_memory LockFaults.ClockEnd = false
is_memory (LockFaults.Full table) = false

-- what is granted, or none where a request is refused
abbrev pub IsGranted : Option Granted → Result Granted Refusal → Type 0
IsGranted (Some g) r = r ≡ Ok g
IsGranted None r = (why : Refusal) × (r ≡ Err why)
