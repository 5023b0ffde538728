-- A tick on the unpublished sequences of a group, and what it is refused for.
use Rattle.std.specs.Prelude.{◌&&◌, ◌++◌, ◌+ℤ◌, ◌∷◌, Bool, List, None, Option, Some, [], cond, false, find, fold, int_le, length, nat_le, nat_lt, not, pos, ℕ, ℤ}
use Rattle.std.specs.List.{list_any}
use Rattle.std.specs.Option.{option_map}
use Rattle.book_rows.specs.Kinds.{same_state}
use Rattle.book_rows.specs.Names.{sequence_name}
use Rattle.book_rows.specs.Outcome.{row_limit}
use Rattle.book_rows.specs.Sequences.{is_closed, name_of, partitions_of, positions}
use Rattle.book_rows.specs.Ticks.{Ticking, replicas_of}
use Rattle.book_rows.specs.declared.answers.Ticked.{Ticked}
use Rattle.book_rows.specs.declared.kinds.SeqState.TheVariants as States
use Rattle.book_rows.specs.declared.kinds.Table.TheVariants as Tables
use Rattle.book_rows.specs.declared.rows.Offset.{Offset}
use Rattle.book_rows.specs.declared.rows.OffsetRow.{OffsetRow}
use Rattle.book_rows.specs.declared.rows.SequenceRow.{SequenceRow}
use Rattle.book_rows.specs.declared.rows.SupervisorRow.{SupervisorRow}
use Rattle.tab_sequences.specs.Changes.{is_active_state}
use Rattle.sup_core.specs.declared.answers.SupFault.{SupFault}
use Rattle.sup_core.specs.declared.answers.SupFault.TheVariants as Faults

-- ---- late ones, and those whose time is over, of a group

abbrev pub is_past : ℤ → ℤ → ℤ → Bool
is_past begun duration now = int_le (begun +ℤ duration) now

abbrev pub is_late_closed : ℤ → ℤ → SequenceRow → Bool
is_late_closed timeout now u = is_closed u && is_past u.closed timeout now

-- the index of the first closed one that isn't published in time
abbrev pub late_index : ℤ → ℤ → List SequenceRow → Option ℕ
late_index timeout now us = option_map (λ u. u.index) (find (is_late_closed timeout now) us)

-- from this index on, where there is one
abbrev pub is_from : Option ℕ → SequenceRow → Bool
is_from None u = false
is_from (Some index) u = nat_le index u.index

abbrev pub is_done_reading : ℤ → ℤ → SequenceRow → Bool
is_done_reading duration now u = same_state u.state States.Reading && is_past u.opened duration now

-- what is told of one: it is abandoned, or pauses, or neither
abbrev pub told_one : Option ℕ → ℤ → ℤ → Ticked → SequenceRow → Ticked
told_one late duration now t u =
    cond (is_from late u) (record t { abandoned = t.abandoned ++ name_of u ∷ []; ended = t.ended ++ u.live })
    (cond (is_done_reading duration now u) (record t { paused = t.paused ++ name_of u ∷ [] }) t)

abbrev pub told_all : Option ℕ → ℤ → ℤ → Ticked → List SequenceRow → Ticked
told_all late duration now t us = fold (told_one late duration now) t us

-- ---- opening

-- it stays, and reads or waits for reports
abbrev pub is_staying : Option ℕ → SequenceRow → Bool
is_staying late u = not (is_from late u) && is_active_state u.state

abbrev pub stays_active : Option ℕ → List SequenceRow → Bool
stays_active late us = list_any (is_staying late) us

-- a closed one that stays
abbrev pub stays_closed : Option ℕ → SequenceRow → Bool
stays_closed late u = not (is_from late u) && is_closed u

abbrev pub later_closed : Option ℕ → Option SequenceRow → SequenceRow → Option SequenceRow
later_closed late last u = cond (stays_closed late u) (Some u) last

-- the last of those
abbrev pub last_closed : Option ℕ → List SequenceRow → Option SequenceRow
last_closed late us = fold (later_closed late) None us

-- the ends of this sequence, where there is one
abbrev pub ends_or : List Offset → Option SequenceRow → List Offset
ends_or at None = at
ends_or at (Some u) = u.ends

-- a new sequence of the group starts where the last closed one that stays ends, or else at the stored offsets
abbrev pub new_row : List OffsetRow → SupervisorRow → ℕ → ℤ → ℕ → Option ℕ → List SequenceRow → SequenceRow
new_row offsets s group now size late us = record {
  source = s.source;
  group = group;
  index = size;
  state = States.Reading;
  opened = now;
  closed = pos 0;
  starts = ends_or (positions offsets s.source s.stream (partitions_of s group)) (last_closed late us);
  ends = [];
  live = replicas_of (sequence_name s.source group size) s.replicas;
  reports = [];
}

-- ---- refusals

-- there would be too many tasks, or sequences
abbrev pub tick_fault : ℕ → Ticking → Option SupFault
tick_fault tasks_left k =
    cond (nat_lt tasks_left (length k.told.submitted)) (Some (Faults.Full Tables.Tasks))
    (cond (nat_lt row_limit (length k.rows)) (Some (Faults.Full Tables.Sequences)) None)
