-- Refusals that leave the book come to what the rules say.
use Rattle.std.proofs.Common.{◌≡◌, ◌∙◌, ℕ, ℤ, Err, IfOk, Ok, Option, Result, ap, false, refl, sym}
use Rattle.seg_names.specs.declared.seg_id.SegId.{SegId}
use Rattle.book_rows.specs.Outcome as rules
use Rattle.book_rows.specs.declared.answers.Granted.{Granted}
use Rattle.book_rows.specs.declared.answers.Place.{Place}
use Rattle.book_rows.specs.declared.replies.Refusal.{Refusal}
use Rattle.book_rows.specs.declared.replies.Refusal.TheVariants as Refusals
use Rattle.book_rows.specs.declared.rows.Book.{Book}
use Rattle.lockbox.specs.Decided.{IsAnswer}
use Rattle.lockbox.specs.declared.fault.LockFault.{LockFault}
use Rattle.lockbox.specs.declared.fault.LockFault.TheVariants as LockFaults
use Rattle.seg_alloc.specs.Answers.{IsKnown, IsPlaced}
use Rattle.seg_alloc.specs.declared.faults.KnownFault.{KnownFault}
use Rattle.seg_alloc.specs.declared.faults.KnownFault.TheVariants as KnownFaults
use Rattle.seg_alloc.specs.declared.faults.PlaceFault.{PlaceFault}
use Rattle.seg_alloc.specs.declared.faults.PlaceFault.TheVariants as PlaceFaults
use Rattle.task_queue.specs.Refused.{IsRefused}
use Rattle.task_queue.specs.declared.queue.QueueFault.{QueueFault}
use Rattle.task_queue.specs.declared.queue.QueueFault.TheVariants as QueueFaults
use Rattle.book_core.specs.Decisions.{is_memory}
use Rattle.book_core.specs.Done.{IsDone}
use Rattle.book_core.specs.Refused.{IsKnownRefusal, IsLockRefusal, IsPlaceRefusal, IsQueueRefusal, refusal}
use Rattle.book_core.specs.declared.outcomes.Outcome.{Outcome}

pub queue_done : {E : Type 0} (fault : QueueFault) (r : Result Outcome E) (b : Book) (o : rules.Outcome) → IsRefused fault b o → IfOk r (λ d. IsQueueRefusal fault d) → IfOk r (λ d. IsDone d b o)
queue_done fault (Err e) b o h k = tt
queue_done QueueFaults.Unknown (Ok d) b o h k = rw (k, h) (record { reply = refl; changes = refl; book = refl })
queue_done QueueFaults.Exists (Ok d) b o h k = rw (k, h) (record { reply = refl; changes = refl; book = refl })
queue_done (QueueFaults.NotRunning status) (Ok d) b o h k = rw (k, h) (record { reply = refl; changes = refl; book = refl })
queue_done (QueueFaults.Ended status) (Ok d) b o h k = rw (k, h) (record { reply = refl; changes = refl; book = refl })
queue_done (QueueFaults.Full table) (Ok d) b o h k = rw (k, h) (record { reply = refl; changes = refl; book = refl })
queue_done QueueFaults.OutOfMemory (Ok d) b o h k = absurd k

-- a refusal leaves the book
pub refusal_done : (d : Outcome) (b : Book) (why : Refusal) → d ≡ refusal why → IsDone d b (rules.refused b why)
refusal_done d b why is = record { reply = ap (λ (x : Outcome). x.reply) is; changes = ap (λ (x : Outcome). x.changes) is; book = refl }

-- ---- why it is refused

pub lock_why : {X : Type 0} (fault : LockFault) (why : Refusal) (answer : Result X Refusal) → IsAnswer (Err fault) answer → IsLockRefusal fault why → answer ≡ Err why
lock_why (LockFaults.Revoked by) why answer h k = h ∙ ap (λ (w : Refusal). Err w) (sym k)
lock_why (LockFaults.Conflict by) why answer h k = h ∙ ap (λ (w : Refusal). Err w) (sym k)
lock_why LockFaults.ClockEnd why answer h k = h ∙ ap (λ (w : Refusal). Err w) (sym k)
lock_why (LockFaults.Full table) why answer h k = h ∙ ap (λ (w : Refusal). Err w) (sym k)
lock_why LockFaults.OutOfMemory why answer h k = absurd k

pub known_why : (fault : KnownFault) (why : Refusal) (answer : Result (Option (SegId × ℕ)) Refusal) → IsKnown (Err fault) answer → IsKnownRefusal fault why → answer ≡ Err why
known_why (KnownFaults.Mismatch id) why answer h k = h ∙ ap (λ (w : Refusal). Err w) (sym k)
known_why (KnownFaults.Revoked by) why answer h k = h ∙ ap (λ (w : Refusal). Err w) (sym k)
known_why KnownFaults.OutOfMemory why answer h k = absurd k

pub place_why : (at : ℤ) (fault : PlaceFault) (why : Refusal) (answer : Result Place Refusal) → IsPlaced at (Err fault) answer → IsPlaceRefusal at fault why → answer ≡ Err why
place_why at (PlaceFaults.Cut id) why answer h k = h ∙ ap (λ (w : Refusal). Err w) (sym k)
place_why at PlaceFaults.NoBucket why answer h k = h ∙ ap (λ (w : Refusal). Err w) (sym k)
place_why at PlaceFaults.OutOfMemory why answer h k = absurd k

-- an error that isn't want of memory is a refusal
pub is_refused : (fault : LockFault) (answer : Result Granted Refusal) → is_memory fault ≡ false → IsAnswer (Err fault) answer → (why : Refusal) × (answer ≡ Err why)
is_refused (LockFaults.Revoked by) answer off h = (Refusals.LockRevoked by, h)
is_refused (LockFaults.Conflict by) answer off h = (Refusals.LockConflict by, h)
is_refused LockFaults.ClockEnd answer off h = (Refusals.ClockEnd, h)
is_refused (LockFaults.Full table) answer off h = (Refusals.TableFull table, h)
is_refused LockFaults.OutOfMemory answer off h = absurd (cc)
