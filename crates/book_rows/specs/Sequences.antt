-- Sequences of a supervisor: which partitions, which come next, and which publishes they let through.
use Rattle.std.specs.Prelude.{◌%◌, ◌&&◌, ◌==◌, ◌∷◌, Bool, List, None, Option, Some, [], bytes_eq, cond, false, filter, find, map, nat_le, not, true, ℕ}
use Rattle.std.specs.List.{range_with_len}
use Rattle.book_rows.specs.Kinds.{is_unpublished, same_state}
use Rattle.book_rows.specs.Lists.{gathered}
use Rattle.book_rows.specs.Names.{sequence_name}
use Rattle.book_rows.specs.Offsets.{stored}
use Rattle.book_rows.specs.declared.rows.Offset.{Offset}
use Rattle.book_rows.specs.declared.rows.OffsetRow.{OffsetRow}
use Rattle.book_rows.specs.declared.rows.Range.{Range}
use Rattle.book_rows.specs.declared.rows.Ranges.{Ranges}
use Rattle.book_rows.specs.declared.rows.SequenceRow.{SequenceRow}
use Rattle.book_rows.specs.declared.rows.SupervisorRow.{SupervisorRow}
use Rattle.book_rows.specs.declared.kinds.SeqState.TheVariants as States

-- ---- look-ups

abbrev pub supervisor_of : List ℕ → List SupervisorRow → Option SupervisorRow
supervisor_of source ss = find (λ s. bytes_eq s.source source) ss

-- a group's partitions, ascending
abbrev pub partitions_of : SupervisorRow → ℕ → List ℕ
partitions_of s group = filter (λ p. (p % s.task_count) == group) (range_with_len 0 s.partitions)

abbrev pub name_of : SequenceRow → List ℕ
name_of u = sequence_name u.source u.group u.index

abbrev pub is_named : List ℕ → SequenceRow → Bool
is_named name u = bytes_eq (name_of u) name

abbrev pub sequence_named : List ℕ → List SequenceRow → Option SequenceRow
sequence_named name us = find (is_named name) us

abbrev pub is_of_group : List ℕ → ℕ → SequenceRow → Bool
is_of_group source group u = bytes_eq u.source source && (u.group == group)

-- an unpublished sequence of the group
abbrev pub is_open : List ℕ → ℕ → SequenceRow → Bool
is_open source group u = is_of_group source group u && is_unpublished u.state

abbrev pub is_closed : SequenceRow → Bool
is_closed u = same_state u.state States.Closed

abbrev pub open_rows : List ℕ → ℕ → List SequenceRow → List SequenceRow
open_rows source group us = filter (is_open source group) us

abbrev pub first_open : List ℕ → ℕ → List SequenceRow → Option SequenceRow
first_open source group us = find (is_open source group) us

-- ---- offsets of partitions

abbrev pub or_zero : Option ℕ → ℕ
or_zero None = 0
or_zero (Some z) = z

abbrev pub offset_at : List OffsetRow → List ℕ → List ℕ → ℕ → Offset
offset_at rows source stream p = record { partition = p; offset = or_zero (stored rows source stream p) }

-- where the partitions stand: at the stored offset, or at 0
abbrev pub positions : List OffsetRow → List ℕ → List ℕ → List ℕ → List Offset
positions rows source stream ps = map (offset_at rows source stream) ps

abbrev pub named : List Offset → List ℕ
named os = map (λ o. o.partition) os

-- both name the same partitions, and no offset of the second is below its one of the first
abbrev pub reaches : List Offset → List Offset → Bool
reaches [] [] = true
reaches (s ∷ ss) (e ∷ es) = (s.partition == e.partition) && nat_le s.offset e.offset && reaches ss es
reaches _ _ = false

-- the ranges are exactly from these starts to these ends
abbrev pub are_ranges : List Offset → List Offset → List Range → Bool
are_ranges [] [] [] = true
are_ranges (s ∷ ss) (e ∷ es) (r ∷ rs) = (r.partition == s.partition) && (r.partition == e.partition) && (r.start == s.offset) && (r.end == e.offset) && are_ranges ss es rs
are_ranges _ _ _ = false

-- ---- a publish of a task of this group and source

abbrev pub is_on_stream : Option SupervisorRow → Option Ranges → Bool
is_on_stream None ranges = false
is_on_stream (Some s) None = false
is_on_stream (Some s) (Some ranges) = bytes_eq ranges.stream s.stream

-- exactly the sequence's starts and ends on the supervisor's stream
abbrev pub tells : Option SupervisorRow → SequenceRow → Option Ranges → Bool
tells None u ranges = false
tells (Some s) u None = false
tells (Some s) u (Some ranges) = bytes_eq ranges.stream s.stream && are_ranges u.starts u.ends ranges.parts

-- the sequence is the one that was found
abbrev pub is_found : Option SequenceRow → SequenceRow → Bool
is_found None u = false
is_found (Some v) u = v.index == u.index

abbrev pub passes_by : Option SequenceRow → Option SupervisorRow → List SequenceRow → Option Ranges → Bool
passes_by None s us ranges = not (is_on_stream s ranges)
passes_by (Some u) s us ranges = is_found (first_open u.source u.group us) u && is_closed u && tells s u ranges

-- whether a publish is let through: one of no sequence and not on the supervisor's stream isn't asked
abbrev pub passes : List SupervisorRow → List SequenceRow → List ℕ → List ℕ → Option Ranges → Bool
passes ss us source group ranges = passes_by (sequence_named group us) (supervisor_of source ss) us ranges

-- ---- changes

-- the sequence of this name is published
abbrev pub published : List ℕ → SequenceRow → SequenceRow
published name u = record u { state = cond (is_named name u) States.Published u.state }

-- an unpublished sequence of the group, at this index or later
abbrev pub is_abandoned_by : List ℕ → ℕ → ℕ → SequenceRow → Bool
is_abandoned_by source group from u = is_open source group u && nat_le from u.index

-- the unpublished sequences of the group, from this index on, are abandoned, and have no live replica any more
abbrev pub abandoned : List ℕ → ℕ → ℕ → SequenceRow → SequenceRow
abandoned source group from u = record u { state = cond (is_abandoned_by source group from u) States.Abandoned u.state; live = cond (is_abandoned_by source group from u) [] u.live }

-- the names of those, and their replicas that haven't ended
abbrev pub names_abandoned : List ℕ → ℕ → ℕ → List SequenceRow → List (List ℕ)
names_abandoned source group from us = map name_of (filter (is_abandoned_by source group from) us)

abbrev pub tasks_abandoned : List ℕ → ℕ → ℕ → List SequenceRow → List (List ℕ)
tasks_abandoned source group from us = gathered (λ u. u.live) (filter (is_abandoned_by source group from) us)

-- an unpublished sequence of the source
abbrev pub is_dropped_by : List ℕ → SequenceRow → Bool
is_dropped_by source u = bytes_eq u.source source && is_unpublished u.state

-- all unpublished sequences of the source are abandoned
abbrev pub dropped_sequence : List ℕ → SequenceRow → SequenceRow
dropped_sequence source u = record u { state = cond (is_dropped_by source u) States.Abandoned u.state; live = cond (is_dropped_by source u) [] u.live }

abbrev pub tasks_dropped : List ℕ → List SequenceRow → List (List ℕ)
tasks_dropped source us = gathered (λ u. u.live) (filter (is_dropped_by source) us)
