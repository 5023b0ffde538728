-- What the clock's step makes of the sequences: late ones are abandoned, those whose time is over pause, and new ones open.
use Rattle.std.specs.Prelude.{◌&&◌, ◌++◌, ◌+ℤ◌, ◌||◌, ◌∷◌, Bool, List, None, Option, Some, [], cond, filter, find, int_le, length, map, nat_lt, pos, ℕ, ℤ}
use Rattle.std.specs.List.{list_any, range_with_len}
use Rattle.book_rows.specs.Kinds.{default_priority, same_state}
use Rattle.book_rows.specs.Names.{replica_name, sequence_name}
use Rattle.book_rows.specs.Sequences.{abandoned, is_closed, is_of_group, name_of, names_abandoned, partitions_of, positions, tasks_abandoned}
use Rattle.book_rows.specs.declared.answers.Ticked.{Ticked}
use Rattle.book_rows.specs.declared.rows.Offset.{Offset}
use Rattle.book_rows.specs.declared.rows.OffsetRow.{OffsetRow}
use Rattle.book_rows.specs.declared.rows.SequenceRow.{SequenceRow}
use Rattle.book_rows.specs.declared.rows.SupervisorRow.{SupervisorRow}
use Rattle.book_rows.specs.declared.rows.TaskRow.{TaskRow}
use Rattle.book_rows.specs.declared.kinds.SeqState.TheVariants as States
use Rattle.book_rows.specs.declared.kinds.TaskStatus.TheVariants as Statuses
use Rattle.book_rows.specs.declared.kinds.TaskKind.TheVariants as TaskKinds

-- the sequences, and what is told of them
pub record Ticking : Type 0 where
  pub rows : List SequenceRow
  pub told : Ticked

abbrev pub nothing_ticked : Ticked
nothing_ticked = record { abandoned = []; paused = []; opened = []; ended = []; submitted = [] }

-- ---- a closed sequence that isn't published in time

abbrev pub is_late : SupervisorRow → ℕ → ℤ → SequenceRow → Bool
is_late s group now u = is_of_group s.source group u && is_closed u && int_le (u.closed +ℤ s.timeout) now

-- the first such and all later unpublished ones are abandoned
abbrev pub late_from : Option SequenceRow → SupervisorRow → ℕ → Ticking → Ticking
late_from None s group k = k
late_from (Some u) s group k = record {
  rows = map (abandoned s.source group u.index) k.rows;
  told = record k.told { abandoned = k.told.abandoned ++ names_abandoned s.source group u.index k.rows; ended = k.told.ended ++ tasks_abandoned s.source group u.index k.rows };
}

abbrev pub without_late : SupervisorRow → ℕ → ℤ → Ticking → Ticking
without_late s group now k = late_from (find (is_late s group now) k.rows) s group k

-- ---- a reading sequence whose time is over

abbrev pub is_over : SupervisorRow → ℕ → ℤ → SequenceRow → Bool
is_over s group now u = (is_of_group s.source group u && int_le (u.opened +ℤ s.duration) now) && same_state u.state States.Reading

abbrev pub stopped : SupervisorRow → ℕ → ℤ → SequenceRow → SequenceRow
stopped s group now u = record u { state = cond (is_over s group now u) States.Paused u.state }

abbrev pub with_stopped : SupervisorRow → ℕ → ℤ → Ticking → Ticking
with_stopped s group now k = record {
  rows = map (stopped s group now) k.rows;
  told = record k.told { paused = k.told.paused ++ map name_of (filter (is_over s group now) k.rows) };
}

-- ---- opening

-- a sequence of the group that still reads, or waits for reports
abbrev pub is_active : SupervisorRow → ℕ → SequenceRow → Bool
is_active s group u = is_of_group s.source group u && (same_state u.state States.Reading || same_state u.state States.Paused)

abbrev pub of_group : SupervisorRow → ℕ → List SequenceRow → List SequenceRow
of_group s group us = filter (is_of_group s.source group) us

-- the ends of the last closed one, or else these offsets
abbrev pub last_ends : List Offset → List SequenceRow → List Offset
last_ends at [] = at
last_ends at (u ∷ us) = last_ends (cond (is_closed u) u.ends at) us

abbrev pub replicas_of : List ℕ → ℕ → List (List ℕ)
replicas_of name n = map (replica_name name) (range_with_len 0 n)

-- a new sequence of the group; indexes are counted from 0
abbrev pub opened_row : List OffsetRow → SupervisorRow → ℕ → ℤ → List SequenceRow → SequenceRow
opened_row offsets s group now us = record {
  source = s.source;
  group = group;
  index = length (of_group s group us);
  state = States.Reading;
  opened = now;
  closed = pos 0;
  starts = last_ends (positions offsets s.source s.stream (partitions_of s group)) (of_group s group us);
  ends = [];
  live = replicas_of (sequence_name s.source group (length (of_group s group us))) s.replicas;
  reports = [];
}

-- a task of a sequence
abbrev pub replica_row : SequenceRow → List ℕ → TaskRow
replica_row u task = record {
  task = task;
  group = name_of u;
  source = u.source;
  kind = TaskKinds.Realtime;
  priority = default_priority TaskKinds.Realtime;
  status = Statuses.Waiting;
  wants = [];
}

abbrev pub opens : SequenceRow → Ticking → Ticking
opens u k = record {
  rows = k.rows ++ u ∷ [];
  told = record k.told { opened = k.told.opened ++ name_of u ∷ []; submitted = k.told.submitted ++ map (replica_row u) u.live };
}

-- where the group has no sequence that reads or is paused, one is opened
abbrev pub with_opened : List OffsetRow → SupervisorRow → ℕ → ℤ → Ticking → Ticking
with_opened offsets s group now k = cond (list_any (is_active s group) k.rows) k (opens (opened_row offsets s group now k.rows) k)

-- ---- all groups

-- the three steps of one group
abbrev pub ticked_group : List OffsetRow → SupervisorRow → ℤ → ℕ → Ticking → Ticking
ticked_group offsets s now group k = with_opened offsets s group now (with_stopped s group now (without_late s group now k))

abbrev pub has_partitions : SupervisorRow → ℕ → Bool
has_partitions s group = nat_lt group s.partitions

-- its groups with partitions, ascending
abbrev pub groups_of : SupervisorRow → List ℕ
groups_of s = filter (has_partitions s) (range_with_len 0 s.task_count)

abbrev pub ticked_groups : List OffsetRow → SupervisorRow → ℤ → List ℕ → Ticking → Ticking
ticked_groups offsets s now [] k = k
ticked_groups offsets s now (g ∷ gs) k = ticked_groups offsets s now gs (ticked_group offsets s now g k)

abbrev pub ticked_all : List OffsetRow → ℤ → List SupervisorRow → Ticking → Ticking
ticked_all offsets now [] k = k
ticked_all offsets now (s ∷ ss) k = ticked_all offsets now ss (ticked_groups offsets s now (groups_of s) k)

-- what a tick at this moment makes of the sequences of all supervisors
abbrev pub ticked : List OffsetRow → ℤ → List SupervisorRow → List SequenceRow → Ticking
ticked offsets now ss us = ticked_all offsets now ss (record { rows = us; told = nothing_ticked })
