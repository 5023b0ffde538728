-- For whoever decides one request: a list of one is that one, and the room is the book's.
use Rattle.std.proofs.Common.{Bool, Err, List, None, Ok, Option, Result, Some, [], ap, cond, false, nat_lt, refl, sym, true, ℕ, ◌+◌, ◌^◌, ◌∙◌, ◌∷◌, ◌≡◌}
use Rattle.std.proofs.lemmas.Bool.{cond-true}
use Rattle.book_rows.specs.Grant.{book_granted, continued, grant, grant_all, grant_lock, granted_of, nothing_granted, posses_after}
use Rattle.book_rows.specs.Outcome.{no_room}
use Rattle.book_rows.specs.declared.answers.Counters.{Counters}
use Rattle.book_rows.specs.declared.answers.Granted.{Granted}
use Rattle.book_rows.specs.declared.answers.GrantedLock.{GrantedLock}
use Rattle.book_rows.specs.declared.kinds.Table.{Table}
use Rattle.book_rows.specs.declared.kinds.Table.TheVariants as Tables
use Rattle.book_rows.specs.declared.replies.Refusal.{Refusal}
use Rattle.book_rows.specs.declared.replies.Refusal.TheVariants as Refusals
use Rattle.book_rows.specs.declared.rows.Book.{Book}
use Rattle.book_rows.specs.declared.rows.PosseRow.{PosseRow}
use Rattle.book_rows.specs.declared.rows.TaskRow.{TaskRow}
use Rattle.book_rows.specs.declared.rows.Want.{Want}
use Rattle.lockbox.specs.Decided.{IsAnswer, decided, decided_lock, if_room, lock_with_room, too_full, with_room}
use Rattle.lockbox.specs.declared.fault.LockFault.{LockFault}
use Rattle.lockbox.specs.declared.fault.LockFault.TheVariants as Faults
use Rattle.lockbox.proofs.Following.{after_nothing, then_nothing}
use Rattle.lockbox.proofs.Fresh.{one_revoked}

module _ (ps : List PosseRow) (k : Counters) (t : TaskRow) (w : Want) where
  by_answer : (r : Result Granted Refusal) → grant ps k t w ≡ r → continued t.task r (λ g. grant_all (posses_after ps t.task g) g.after t []) ≡ r
  by_answer (Err why) e = refl
  by_answer (Ok g) e = ap Ok (then_nothing t.task g (one_revoked ps k t w g e))

  pub grant_one : grant_all ps k t (w ∷ []) ≡ grant ps k t w
  grant_one = by_answer (grant ps k t w) refl

-- a refused lock grants nothing
pub fault_of : (fault : LockFault) (r : Result GrantedLock Refusal) → IsAnswer (Err fault) r → IsAnswer (Err fault) (granted_of r)
fault_of (Faults.Revoked n) r h = ap granted_of h
fault_of (Faults.Conflict n) r h = ap granted_of h
fault_of Faults.ClockEnd r h = ap granted_of h
fault_of (Faults.Full table) r h = ap granted_of h
fault_of Faults.OutOfMemory r h = tt

-- a lock that is refused needs no room
pub fault_with_room : (fault : LockFault) (ps : List PosseRow) (task : List ℕ) (r : Result GrantedLock Refusal) → IsAnswer (Err fault) r → IsAnswer (Err fault) (lock_with_room ps task r)
fault_with_room (Faults.Revoked n) ps task r h = ap (lock_with_room ps task) h
fault_with_room (Faults.Conflict n) ps task r h = ap (lock_with_room ps task) h
fault_with_room Faults.ClockEnd ps task r h = ap (lock_with_room ps task) h
fault_with_room (Faults.Full table) ps task r h = ap (lock_with_room ps task) h
fault_with_room Faults.OutOfMemory ps task r h = tt

-- what is decided after nothing was granted is decided of the locks as they are
pub decided_from : (ps : List PosseRow) (k : Counters) (t : TaskRow) (w : Want) (g : Granted) → g ≡ nothing_granted k → nat_lt (k.next_lock + 1) (2 ^ 64) ≡ true
    → decided_lock ps k t w ≡ lock_with_room ps t.task (grant_lock (posses_after ps t.task g) g.after t w)
decided_from ps k t w g is few =
    cond-true (nat_lt (k.next_lock + 1) (2 ^ 64)) _ _ few
    ∙ (
    ap (λ (qs : List PosseRow). lock_with_room ps t.task (grant_lock qs k t w)) (sym (after_nothing t.task k ps))
    ∙ ap (λ (h : Granted). lock_with_room ps t.task (grant_lock (posses_after ps t.task h) h.after t w)) (sym is)
    )

-- what is decided of one lock is what is decided of the list of that request
room_of : (o : Option Table) (l : GrantedLock) → if_room o l.granted ≡ granted_of (if_room o l)
room_of (Some table) l = refl
room_of None l = refl

lock_room_of : (ps : List PosseRow) (task : List ℕ) (r : Result GrantedLock Refusal) → with_room ps task (granted_of r) ≡ granted_of (lock_with_room ps task r)
lock_room_of ps task (Err why) = refl
lock_room_of ps task (Ok l) = room_of (too_full ps task l.granted) l

pub lock_is_decided : (ps : List PosseRow) (k : Counters) (t : TaskRow) (w : Want) → decided ps k t (w ∷ []) ≡ granted_of (decided_lock ps k t w)
lock_is_decided ps k t w = by (nat_lt (k.next_lock + 1) (2 ^ 64)) where
  by : (room : Bool) → cond room (with_room ps t.task (grant_all ps k t (w ∷ []))) (Err (Refusals.TableFull Tables.Numbers)) ≡ granted_of (cond room (lock_with_room ps t.task (grant_lock ps k t w)) (Err (Refusals.TableFull Tables.Numbers)))
  by true = ap (with_room ps t.task) (grant_one ps k t w) ∙ lock_room_of ps t.task (grant_lock ps k t w)
  by false = refl

pub room_is : (b : Book) (task : List ℕ) (g : Granted) → no_room (Tables.Locks ∷ Tables.Numbers ∷ []) (book_granted b task g) ≡ too_full b.posses task g
room_is b task g = refl
