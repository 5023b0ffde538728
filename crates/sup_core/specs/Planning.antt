-- What a tick will make of the sequences, told from them as they stand, before anything changes.
use Rattle.std.specs.Prelude.{◌++◌, ◌∷◌, List, Option, [], cond, length, map, ℕ, ℤ}
use Rattle.book_rows.specs.Sequences.{name_of, open_rows}
use Rattle.book_rows.specs.Ticks.{Ticking, groups_of, nothing_ticked, of_group, replica_row}
use Rattle.book_rows.specs.declared.answers.Ticked.{Ticked}
use Rattle.book_rows.specs.declared.rows.OffsetRow.{OffsetRow}
use Rattle.book_rows.specs.declared.rows.SequenceRow.{SequenceRow}
use Rattle.book_rows.specs.declared.rows.SupervisorRow.{SupervisorRow}
use Rattle.sup_core.specs.ByNames.{by_names}
use Rattle.sup_core.specs.Ticking.{late_index, new_row, stays_active, told_all}

-- what is told, and the sequences that unpublished
pub record Planning : Type 0 where
  pub told : Ticked
  pub opened : List SequenceRow

abbrev pub nothing_planned : Planning
nothing_planned = record { told = nothing_ticked; opened = [] }

-- ---- one group

-- which of a group's unpublished sequences are abandoned, from an index on, and which pause
abbrev pub with_told : Option ℕ → SupervisorRow → ℤ → List SequenceRow → Planning → Planning
with_told late s now unpublished p = record p { told = told_all late s.duration now p.told unpublished }

-- a sequence opens, and its replicas are submitted
abbrev pub with_opening : SequenceRow → Planning → Planning
with_opening u p = record {
  told = record p.told { opened = p.told.opened ++ name_of u ∷ []; submitted = p.told.submitted ++ map (replica_row u) u.live };
  opened = p.opened ++ u ∷ [];
}

abbrev pub planned_from : Option ℕ → List OffsetRow → SupervisorRow → ℤ → ℕ → ℕ → List SequenceRow → Planning → Planning
planned_from late offsets s now group size unpublished p =
    cond (stays_active late unpublished) (with_told late s now unpublished p) (with_opening (new_row offsets s group now size late unpublished) (with_told late s now unpublished p))

-- a group of this size, with these unpublished sequences
abbrev pub planned_by : List OffsetRow → SupervisorRow → ℤ → ℕ → ℕ → List SequenceRow → Planning → Planning
planned_by offsets s now group size unpublished p = planned_from (late_index s.timeout now unpublished) offsets s now group size unpublished p

abbrev pub planned_group : List OffsetRow → SupervisorRow → ℤ → List SequenceRow → ℕ → Planning → Planning
planned_group offsets s now us group p = planned_by offsets s now group (length (of_group s group us)) (open_rows s.source group us) p

-- ---- all groups

abbrev pub planned_groups : List OffsetRow → SupervisorRow → ℤ → List SequenceRow → List ℕ → Planning → Planning
planned_groups offsets s now us [] p = p
planned_groups offsets s now us (g ∷ gs) p = planned_groups offsets s now us gs (planned_group offsets s now us g p)

abbrev pub planned_all : List OffsetRow → ℤ → List SequenceRow → List SupervisorRow → Planning → Planning
planned_all offsets now us [] p = p
planned_all offsets now us (s ∷ ss) p = planned_all offsets now us ss (planned_groups offsets s now us (groups_of s) p)

-- ---- what it makes of the sequences

abbrev pub carried_out : List SequenceRow → Planning → Ticking
carried_out us p = record { rows = map (by_names p.told.abandoned p.told.paused) us ++ p.opened; told = p.told }
