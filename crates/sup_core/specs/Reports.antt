-- How a report of a replica is answered, and what it makes of its sequence.
use Rattle.std.specs.Prelude.{Bool, List, None, Option, Some, [], cond, false, map, true, ℕ, ℤ}
use Rattle.book_rows.specs.Reports.{all_reported, ends_told, first_bad, kept, reported}
use Rattle.book_rows.specs.Sequences.{is_closed}
use Rattle.book_rows.specs.declared.answers.Reported.{Reported}
use Rattle.book_rows.specs.declared.kinds.SeqState.{SeqState}
use Rattle.book_rows.specs.declared.kinds.SeqState.TheVariants as States
use Rattle.book_rows.specs.declared.rows.Offset.{Offset}
use Rattle.book_rows.specs.declared.rows.Report.{Report}
use Rattle.book_rows.specs.declared.rows.SequenceRow.{SequenceRow}
use Rattle.sup_core.specs.declared.answers.SupFault.{SupFault}
use Rattle.sup_core.specs.declared.answers.SupFault.TheVariants as Faults
use Rattle.tab_sequences.specs.declared.telling.Closing.{Closing}

-- ---- refusals

-- a checkpoint begins the pause of a sequence that reads
abbrev pub state_fault : SeqState → Bool → Option SupFault
state_fault States.Reading true = None
state_fault States.Reading false = Some (Faults.State States.Reading)
state_fault States.Paused begin = None
state_fault States.Closed begin = None
state_fault States.Published begin = Some (Faults.State States.Published)
state_fault States.Abandoned begin = Some (Faults.State States.Abandoned)

abbrev pub bad_fault : Option ℕ → Option SupFault
bad_fault None = None
bad_fault (Some partition) = Some (Faults.BadRange partition)

-- a closed sequence repeats its ends, whatever is told
abbrev pub offsets_fault : SequenceRow → List Offset → Option SupFault
offsets_fault u offsets = cond (is_closed u) None (bad_fault (first_bad u.starts offsets))

abbrev pub or_fault : Option SupFault → Option SupFault → Option SupFault
or_fault (Some why) rest = Some why
or_fault None rest = rest

abbrev pub row_fault : Bool → SequenceRow → List Offset → Option SupFault
row_fault begin u offsets = or_fault (state_fault u.state begin) (offsets_fault u offsets)

-- the cases in their order
abbrev pub told_fault : Bool → Option SequenceRow → List Offset → Option SupFault
told_fault begin None offsets = Some Faults.NoSequence
told_fault begin (Some u) offsets = row_fault begin u offsets

-- ---- what is answered where nothing is refused

-- how the sequence closes after these reports, where each live replica has reported
abbrev pub closing_after : SequenceRow → List Report → ℤ → Option Closing
closing_after u reports clock = cond (all_reported reports u.live) (Some (record { at = clock; ends = ends_told u.starts reports })) None

abbrev pub closing_reply : Option Closing → Reported
closing_reply None = record { state = States.Paused; ends = []; changed = true }
closing_reply (Some c) = record { state = States.Closed; ends = c.ends; changed = true }

abbrev pub closed_reply : SequenceRow → Reported
closed_reply u = record { state = States.Closed; ends = u.ends; changed = false }

abbrev pub told_reply : Option SequenceRow → Report → ℤ → Option Reported
told_reply None new clock = None
told_reply (Some u) new clock = Some (cond (is_closed u) (closed_reply u) (closing_reply (closing_after u (kept new u.reports) clock)))

-- ---- the sequences after it

abbrev pub rows_after : Option SequenceRow → List ℕ → Report → ℤ → List SequenceRow → List SequenceRow
rows_after None name new clock us = us
rows_after (Some u) name new clock us = cond (is_closed u) us (map (reported name new clock) us)
