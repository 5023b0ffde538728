-- Which value or refusal of the rules an answer is. Want of memory is none.
use Rattle.std.specs.Prelude.{◌≡◌, Err, List, None, Ok, Option, Result, Some, ℕ, ℤ}
use Rattle.seg_names.specs.declared.seg_id.SegId.{SegId}
use Rattle.book_rows.specs.Allocation.{known_fault}
use Rattle.book_rows.specs.declared.answers.Place.{Place}
use Rattle.book_rows.specs.declared.kinds.LockKind.{LockKind}
use Rattle.book_rows.specs.declared.kinds.Table.{Table}
use Rattle.book_rows.specs.declared.replies.Refusal.{Refusal}
use Rattle.book_rows.specs.declared.replies.Refusal.TheVariants as Refusals
use Rattle.book_rows.specs.declared.rows.PendingRow.{PendingRow}
use Rattle.book_rows.specs.declared.rows.PosseRow.{PosseRow}
use Rattle.book_rows.specs.declared.rows.TaskRow.{TaskRow}
use Rattle.seg_alloc.specs.declared.faults.AllotFault.{AllotFault}
use Rattle.seg_alloc.specs.declared.faults.AllotFault.TheVariants as AllotFaults
use Rattle.seg_alloc.specs.declared.faults.KnownFault.{KnownFault}
use Rattle.seg_alloc.specs.declared.faults.KnownFault.TheVariants as KnownFaults
use Rattle.seg_alloc.specs.declared.faults.PlaceFault.{PlaceFault}
use Rattle.seg_alloc.specs.declared.faults.PlaceFault.TheVariants as PlaceFaults

-- ---- the place for an instant

abbrev pub IsPlaced : ℤ → Result Place PlaceFault → Result Place Refusal → Type 0
IsPlaced at (Ok place) r = r ≡ Ok place
IsPlaced at (Err (PlaceFaults.Cut id)) r = r ≡ Err (Refusals.ChunkCut id)
IsPlaced at (Err PlaceFaults.NoBucket) r = r ≡ Err (Refusals.NoBucket at)
IsPlaced at (Err PlaceFaults.OutOfMemory) r = Unit {0}

-- ---- an id that is known

-- the id and the number of its lock, or why they aren't answered
abbrev pub known_unless : Option Refusal → PendingRow → Result (Option (SegId × ℕ)) Refusal
known_unless (Some why) p = Err why
known_unless None p = Ok (Some (p.id, p.posse))

-- what a task is answered that asks for an instant, by the pending that is known
abbrev pub known_answer : Option PendingRow → List PosseRow → TaskRow → LockKind → ℤ → Result (Option (SegId × ℕ)) Refusal
known_answer None ps t kind at = Ok None
known_answer (Some p) ps t kind at = known_unless (known_fault ps t kind at p) p

abbrev pub IsKnown : Result (Option (SegId × ℕ)) KnownFault → Result (Option (SegId × ℕ)) Refusal → Type 0
IsKnown (Ok known) r = r ≡ Ok known
IsKnown (Err (KnownFaults.Mismatch id)) r = r ≡ Err (Refusals.SequenceMismatch id)
IsKnown (Err (KnownFaults.Revoked by)) r = r ≡ Err (Refusals.LockRevoked by)
IsKnown (Err KnownFaults.OutOfMemory) r = Unit {0}

-- ---- a new id

-- the id comes, or memory ran out, only where each table has room; else the first that has none is told
abbrev pub IsAllotted : Result SegId AllotFault → SegId → Option Table → Type 0
IsAllotted (Ok id) own full = (id ≡ own) × (full ≡ None)
IsAllotted (Err (AllotFaults.Full table)) own full = full ≡ Some table
IsAllotted (Err AllotFaults.OutOfMemory) own full = full ≡ None
