-- What the changes of the table make of a sequence.
use Rattle.std.specs.Prelude.{◌&&◌, ◌≡◌, Bool, List, None, Option, Some, [], bytes_eq, cond, false, not, true, ℕ, ℤ}
use Rattle.std.specs.List.{list_any}
use Rattle.book_rows.specs.Kinds.{is_unpublished, same_state}
use Rattle.book_rows.specs.Lists.{Pairs}
use Rattle.book_rows.specs.Sequences.{is_named, name_of}
use Rattle.book_rows.specs.declared.kinds.SeqState.{SeqState}
use Rattle.book_rows.specs.declared.kinds.SeqState.TheVariants as States
use Rattle.book_rows.specs.declared.rows.Offset.{Offset}
use Rattle.book_rows.specs.declared.rows.Report.{Report}
use Rattle.book_rows.specs.declared.rows.SequenceRow.{SequenceRow}
use Rattle.tab_sequences.specs.declared.telling.Closing.{Closing}

abbrev pub differ : SequenceRow → SequenceRow → Type 0
differ u v = bytes_eq (name_of u) (name_of v) ≡ false

abbrev pub HaveDistinctNames : List SequenceRow → Type 0
HaveDistinctNames us = Pairs differ us

-- it reads, or waits for reports
abbrev pub is_active_state : SeqState → Bool
is_active_state States.Reading = true
is_active_state States.Paused = true
is_active_state _ = false

-- ---- publishing and abandoning

-- the sequence of this name, where it isn't published
abbrev pub is_other : List ℕ → SequenceRow → Bool
is_other name u = is_named name u && not (same_state u.state States.Published)

abbrev pub with_published : SequenceRow → SequenceRow
with_published u = record u { state = States.Published }

abbrev pub with_abandoned : SequenceRow → SequenceRow
with_abandoned u = record u { state = States.Abandoned; live = [] }

-- ---- pausing

abbrev pub paused_state : SeqState → SeqState
paused_state States.Reading = States.Paused
paused_state st = st

abbrev pub with_paused : SequenceRow → SequenceRow
with_paused u = record u { state = paused_state u.state }

-- ---- by name

abbrev pub is_open_one : List ℕ → SequenceRow → Bool
is_open_one name u = is_named name u && is_unpublished u.state

-- the sequence of this name, where it is unpublished, is abandoned
abbrev pub abandoned_one : List ℕ → SequenceRow → SequenceRow
abandoned_one name u = record u { state = cond (is_open_one name u) States.Abandoned u.state; live = cond (is_open_one name u) [] u.live }

abbrev pub is_reading_one : List ℕ → SequenceRow → Bool
is_reading_one name u = is_named name u && same_state u.state States.Reading

-- the sequence of this name, where it reads, pauses
abbrev pub paused_one : List ℕ → SequenceRow → SequenceRow
paused_one name u = record u { state = cond (is_reading_one name u) States.Paused u.state }

-- ---- live replicas

abbrev pub has_live_one : List ℕ → SequenceRow → Bool
has_live_one task u = list_any (λ t. bytes_eq t task) u.live

-- ---- telling

abbrev pub state_with : Option Closing → SeqState
state_with None = States.Paused
state_with (Some c) = States.Closed

abbrev pub closed_with : Option Closing → ℤ → ℤ
closed_with None at = at
closed_with (Some c) at = c.at

abbrev pub ends_with : Option Closing → List Offset → List Offset
ends_with None os = os
ends_with (Some c) os = c.ends

abbrev pub reports_with : Option (List Report) → List Report → List Report
reports_with None rs = rs
reports_with (Some new) rs = new

-- the sequence, where it is active, closes or else pauses, and gets these reports where some are given
abbrev pub told_where : Bool → Option (List Report) → Option Closing → SequenceRow → SequenceRow
told_where b reports closing u = record u {
  state = cond b (state_with closing) u.state;
  closed = cond b (closed_with closing u.closed) u.closed;
  ends = cond b (ends_with closing u.ends) u.ends;
  reports = cond b (reports_with reports u.reports) u.reports;
}

abbrev pub after_telling : Option (List Report) → Option Closing → SequenceRow → SequenceRow
after_telling reports closing u = told_where (is_active_state u.state) reports closing u

-- so does the sequence of this name
abbrev pub told_in : List ℕ → Option (List Report) → Option Closing → SequenceRow → SequenceRow
told_in name reports closing u = told_where (is_named name u && is_active_state u.state) reports closing u
