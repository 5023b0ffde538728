-- Which refusal an error is. Want of memory is none.
use Rattle.std.specs.Prelude.{◌≡◌, List, None, Some, false, ℕ, ℤ}
use Rattle.book_rows.specs.declared.replies.Refusal.{Refusal}
use Rattle.book_rows.specs.declared.replies.Refusal.TheVariants as Refusals
use Rattle.book_rows.specs.declared.replies.Reply.TheVariants as Replies
use Rattle.lockbox.specs.declared.fault.LockFault.{LockFault}
use Rattle.lockbox.specs.declared.fault.LockFault.TheVariants as LockFaults
use Rattle.seg_alloc.specs.declared.faults.KnownFault.{KnownFault}
use Rattle.seg_alloc.specs.declared.faults.KnownFault.TheVariants as KnownFaults
use Rattle.seg_alloc.specs.declared.faults.PlaceFault.{PlaceFault}
use Rattle.seg_alloc.specs.declared.faults.PlaceFault.TheVariants as PlaceFaults
use Rattle.sup_core.specs.declared.answers.SupFault.{SupFault}
use Rattle.sup_core.specs.declared.answers.SupFault.TheVariants as SupFaults
use Rattle.task_queue.specs.declared.queue.QueueFault.{QueueFault}
use Rattle.task_queue.specs.declared.queue.QueueFault.TheVariants as QueueFaults
use Rattle.book_core.specs.declared.outcomes.Outcome.{Outcome}

-- the refusal, which leaves the book
abbrev pub refusal : Refusal → Outcome
refusal why = record { reply = Replies.Refused why; changes = false }

abbrev pub IsQueueRefusal : QueueFault → Outcome → Type 0
IsQueueRefusal QueueFaults.Unknown o = o ≡ refusal Refusals.TaskUnknown
IsQueueRefusal QueueFaults.Exists o = o ≡ refusal Refusals.TaskExists
IsQueueRefusal (QueueFaults.NotRunning status) o = o ≡ refusal (Refusals.TaskNotRunning status)
IsQueueRefusal (QueueFaults.Ended status) o = o ≡ refusal (Refusals.TaskEnded status)
IsQueueRefusal (QueueFaults.Full table) o = o ≡ refusal (Refusals.TableFull table)
IsQueueRefusal QueueFaults.OutOfMemory o = ⊥

abbrev pub IsLockRefusal : LockFault → Refusal → Type 0
IsLockRefusal (LockFaults.Revoked by) why = why ≡ Refusals.LockRevoked by
IsLockRefusal (LockFaults.Conflict by) why = why ≡ Refusals.LockConflict by
IsLockRefusal LockFaults.ClockEnd why = why ≡ Refusals.ClockEnd
IsLockRefusal (LockFaults.Full table) why = why ≡ Refusals.TableFull table
IsLockRefusal LockFaults.OutOfMemory why = ⊥

abbrev pub IsKnownRefusal : KnownFault → Refusal → Type 0
IsKnownRefusal (KnownFaults.Mismatch id) why = why ≡ Refusals.SequenceMismatch id
IsKnownRefusal (KnownFaults.Revoked by) why = why ≡ Refusals.LockRevoked by
IsKnownRefusal KnownFaults.OutOfMemory why = ⊥

-- at the instant that is asked for
abbrev pub IsPlaceRefusal : ℤ → PlaceFault → Refusal → Type 0
IsPlaceRefusal at (PlaceFaults.Cut id) why = why ≡ Refusals.ChunkCut id
IsPlaceRefusal at PlaceFaults.NoBucket why = why ≡ Refusals.NoBucket at
IsPlaceRefusal at PlaceFaults.OutOfMemory why = ⊥

-- of a command on the supervisor of this source
abbrev pub IsSupRefusal : List ℕ → SupFault → Refusal → Type 0
IsSupRefusal source SupFaults.Exists why = why ≡ Refusals.SupervisorExists source
IsSupRefusal source (SupFaults.State state) why = why ≡ Refusals.SequenceState (Some state)
IsSupRefusal source SupFaults.NoSequence why = why ≡ Refusals.SequenceState None
IsSupRefusal source (SupFaults.BadRange partition) why = why ≡ Refusals.BadRange partition
IsSupRefusal source SupFaults.NotAssigned why = why ≡ Refusals.RangeNotAssigned source
IsSupRefusal source (SupFaults.Full table) why = why ≡ Refusals.TableFull table
IsSupRefusal source SupFaults.OutOfMemory why = ⊥
