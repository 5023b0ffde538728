-- Which refusal of the rules an answer is.
use Rattle.std.specs.Prelude.{Err, None, Ok, Option, Result, Some}
use Rattle.book_rows.specs.declared.replies.Refusal.{Refusal}
use Rattle.book_rows.specs.declared.replies.Refusal.TheVariants as Refusals
use Rattle.stream_offsets.specs.declared.faults.OffsetFault.{OffsetFault}
use Rattle.stream_offsets.specs.declared.faults.OffsetFault.TheVariants as OffsetFaults

abbrev pub refusal_of : OffsetFault → Refusal
refusal_of (OffsetFaults.BadRange partition) = Refusals.BadRange partition
refusal_of (OffsetFaults.Mismatch partition stored) = Refusals.OffsetMismatch partition stored

abbrev pub fault_of : {X : Type 0} → Result X OffsetFault → Option Refusal
fault_of (Ok x) = None
fault_of (Err fault) = Some (refusal_of fault)
