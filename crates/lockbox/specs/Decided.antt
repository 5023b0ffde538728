-- How requests for locks are answered.
use Rattle.std.specs.Prelude.{◌≡◌, ◌<◌, ◌≤ℤ◌, ◌+◌, ◌^◌, Err, List, None, Ok, Option, Result, Some, cond, length, nat_lt, pos, ℕ}
use Rattle.std.specs.List.{AllByRecursion}
use Rattle.iv_time.specs.Range.{IsInstant}
use Rattle.book_rows.specs.Grant.{grant_all, grant_lock, posses_after}
use Rattle.book_rows.specs.Outcome.{number_limit, row_limit}
use Rattle.book_rows.specs.declared.answers.Counters.{Counters}
use Rattle.book_rows.specs.declared.answers.Granted.{Granted}
use Rattle.book_rows.specs.declared.answers.GrantedLock.{GrantedLock}
use Rattle.book_rows.specs.declared.kinds.Table.{Table}
use Rattle.book_rows.specs.declared.kinds.Table.TheVariants as Tables
use Rattle.book_rows.specs.declared.replies.Refusal.{Refusal}
use Rattle.book_rows.specs.declared.replies.Refusal.TheVariants as Refusals
use Rattle.book_rows.specs.declared.rows.PosseRow.{PosseRow}
use Rattle.book_rows.specs.declared.rows.TaskRow.{TaskRow}
use Rattle.book_rows.specs.declared.rows.Want.{Want}
use Rattle.lockbox.specs.declared.fault.LockFault.{LockFault}
use Rattle.lockbox.specs.declared.fault.LockFault.TheVariants as Faults

-- ---- the conditions of a request

-- the moment and the last version are instants, and the last version isn't before 0
pub record AreCounters (k : Counters) : Type 0 where
  pub clock_is : IsInstant k.clock
  pub last_is : IsInstant k.last
  pub last_low : pos 0 ≤ℤ k.last

-- the lock numbers are below this one
abbrev pub AreBelow : ℕ → List PosseRow → Type 0
AreBelow n ps = AllByRecursion (λ p. p.number < n) ps

-- ---- room

-- the first of the two that exceeds its limit after what was granted: the locks, and their numbers
abbrev pub too_full : List PosseRow → List ℕ → Granted → Option Table
too_full ps task g =
    cond (nat_lt row_limit (length (posses_after ps task g))) (Some Tables.Locks) (cond (nat_lt number_limit g.after.next_lock) (Some Tables.Numbers) None)

abbrev pub if_room : {X : Type 0} → Option Table → X → Result X Refusal
if_room (Some table) x = Err (Refusals.TableFull table)
if_room None x = Ok x

abbrev pub with_room : List PosseRow → List ℕ → Result Granted Refusal → Result Granted Refusal
with_room ps task (Err why) = Err why
with_room ps task (Ok g) = if_room (too_full ps task g) g

abbrev pub lock_with_room : List PosseRow → List ℕ → Result GrantedLock Refusal → Result GrantedLock Refusal
lock_with_room ps task (Err why) = Err why
lock_with_room ps task (Ok lock) = if_room (too_full ps task lock.granted) lock

-- ---- the answer

-- each request on the outcome of those before, and then the room. Where the numbers that new locks could need don't fit
-- a u64, and so are far above their limit, there is no room
abbrev pub decided : List PosseRow → Counters → TaskRow → List Want → Result Granted Refusal
decided ps k t ws = cond (nat_lt (k.next_lock + length ws) (2 ^ 64)) (with_room ps t.task (grant_all ps k t ws)) (Err (Refusals.TableFull Tables.Numbers))

-- the same for one request, with the lock that is granted
abbrev pub decided_lock : List PosseRow → Counters → TaskRow → Want → Result GrantedLock Refusal
decided_lock ps k t w = cond (nat_lt (k.next_lock + 1) (2 ^ 64)) (lock_with_room ps t.task (grant_lock ps k t w)) (Err (Refusals.TableFull Tables.Numbers))

-- the call's answer is the rule's, or memory ran out
abbrev pub IsAnswer : {X : Type 0} → Result X LockFault → Result X Refusal → Type 0
IsAnswer (Ok x) r = r ≡ Ok x
IsAnswer (Err (Faults.Revoked n)) r = r ≡ Err (Refusals.LockRevoked n)
IsAnswer (Err (Faults.Conflict n)) r = r ≡ Err (Refusals.LockConflict n)
IsAnswer (Err Faults.ClockEnd) r = r ≡ Err Refusals.ClockEnd
IsAnswer (Err (Faults.Full table)) r = r ≡ Err (Refusals.TableFull table)
IsAnswer (Err Faults.OutOfMemory) r = Unit {0}

-- ---- what was decided

-- this was granted on these locks to a task of this id
pub record WasDecided (ps : List PosseRow) (g : Granted) (task : List ℕ) : Type 0 where
  pub counters : Counters
  pub row : TaskRow
  pub wants : List Want
  pub task_is : row.task ≡ task
  pub may_count : AreCounters counters
  pub are_below : AreBelow counters.next_lock ps
  pub answer_is : decided ps counters row wants ≡ Ok g
