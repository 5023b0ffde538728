-- Which refusal of the rules an answer is. Want of memory is none.
use Rattle.std.specs.Prelude.{◌≡◌, Err, List, None, Ok, Option, Result, Some, map, ℕ}
use Rattle.std.specs.Borrow.{Bor}
use Rattle.std.specs.Global.{Vec}
use Rattle.book_rows.specs.Lists.{on_ok}
use Rattle.book_rows.specs.Over.{Target}
use Rattle.book_rows.specs.declared.replies.Refusal.{Refusal}
use Rattle.book_rows.specs.declared.rows.PosseRow.{PosseRow}
use Rattle.book_rows.specs.declared.replies.Refusal.TheVariants as Refusals
use Rattle.publish_core.specs.declared.faults.PublishFault.{PublishFault}
use Rattle.publish_core.specs.declared.faults.PublishFault.TheVariants as PublishFaults

-- the fault is this refusal
abbrev pub IsRefusal : PublishFault → Refusal → Type 0
IsRefusal (PublishFaults.NotAllocated id) why = why ≡ Refusals.NotAllocated id
IsRefusal (PublishFaults.BadSpan span) why = why ≡ Refusals.BadSpan span
IsRefusal (PublishFaults.LockRevoked by) why = why ≡ Refusals.LockRevoked by
IsRefusal (PublishFaults.LockMissing span) why = why ≡ Refusals.LockMissing span
IsRefusal (PublishFaults.WrongVersion id) why = why ≡ Refusals.WrongVersion id
IsRefusal (PublishFaults.VersionUsed span) why = why ≡ Refusals.VersionUsed span
IsRefusal (PublishFaults.PendingOverlap id) why = why ≡ Refusals.PendingOverlap id
IsRefusal (PublishFaults.Granularity id) why = why ≡ Refusals.Granularity id
IsRefusal (PublishFaults.DropLocked by) why = why ≡ Refusals.DropLocked by
IsRefusal (PublishFaults.DropPartial id) why = why ≡ Refusals.DropPartial id
IsRefusal PublishFaults.OutOfMemory why = ⊥

-- let through where no case of the rules fails; else the first that does is told
abbrev pub IsPassed : Result (Unit {0}) PublishFault → Option Refusal → Type 0
IsPassed (Ok passed) fault = fault ≡ None
IsPassed (Err told) fault = (why : Refusal) → IsRefusal told why → fault ≡ Some why

-- the value of the rules, or their refusal
abbrev pub IsAnswered : {X : Type 0} → Result X PublishFault → Result X Refusal → Type 0
IsAnswered (Ok x) r = r ≡ Ok x
IsAnswered (Err told) r = (why : Refusal) → IsRefusal told why → r ≡ Err why

-- the same of a lock that is lent
abbrev pub IsHeld : Result (Bor PosseRow) PublishFault → Result PosseRow Refusal → Type 0
IsHeld (Ok lock) r = r ≡ Ok lock.now
IsHeld (Err told) r = (why : Refusal) → IsRefusal told why → r ≡ Err why

-- the same of a list
abbrev pub IsChecked : {X : Type 0} → Result (Vec X) PublishFault → Result (List X) Refusal → Type 0
IsChecked (Ok v) r = r ≡ Ok v.items
IsChecked (Err told) r = (why : Refusal) → IsRefusal told why → r ≡ Err why

-- the numbers of the locks of the targets that are found
abbrev pub locks_checked : Result (List Target) Refusal → Result (List ℕ) Refusal
locks_checked r = on_ok r (λ xs. Ok (map (λ x. x.lock) xs))
