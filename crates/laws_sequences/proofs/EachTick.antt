-- What holds under each step of a tick holds under a whole tick.
use Rattle.std.proofs.Common.{ℕ, ℤ, Bool, true, false, cond, List, [], ◌∷◌, find, Some, None, Option}
use Rattle.std.specs.List.{list_any}
use Rattle.book_rows.specs.Ticks.{Ticking, groups_of, is_active, is_late, late_from, nothing_ticked, opened_row, opens, ticked, ticked_all, ticked_group, ticked_groups, with_stopped, without_late}
use Rattle.book_rows.specs.declared.rows.OffsetRow.{OffsetRow}
use Rattle.book_rows.specs.declared.rows.SequenceRow.{SequenceRow}
use Rattle.book_rows.specs.declared.rows.SupervisorRow.{SupervisorRow}

-- a fact of the sequences and of what is told of them, kept by each step of a group
pub record KeepsTicking (offsets : List OffsetRow) (now : ℤ) (Q : Ticking → Type 0) : Type 0 where
  pub late : (s : SupervisorRow) (group : ℕ) (u : SequenceRow) (k : Ticking) → Q k → Q (late_from (Some u) s group k)
  pub stops : (s : SupervisorRow) (group : ℕ) (k : Ticking) → Q k → Q (with_stopped s group now k)
  pub opening : (s : SupervisorRow) (group : ℕ) (k : Ticking) → Q k → Q (opens (opened_row offsets s group now k.rows) k)

module _ (offsets : List OffsetRow) (now : ℤ) (Q : Ticking → Type 0) (keeps : KeepsTicking offsets now Q) where
  late_keeps : (o : Option SequenceRow) (s : SupervisorRow) (group : ℕ) (k : Ticking) → Q k → Q (late_from o s group k)
  late_keeps None s group k h = h
  late_keeps (Some u) s group k h = keeps.late s group u k h

  opened_keeps : (x : Bool) (s : SupervisorRow) (group : ℕ) (k : Ticking) → Q k → Q (cond x k (opens (opened_row offsets s group now k.rows) k))
  opened_keeps true s group k h = h
  opened_keeps false s group k h = keeps.opening s group k h

  group_keeps : (s : SupervisorRow) (group : ℕ) (k : Ticking) → Q k → Q (ticked_group offsets s now group k)
  group_keeps s group k h =
      let before = with_stopped s group now (without_late s group now k) in
      opened_keeps (list_any (is_active s group) before.rows) s group before (keeps.stops s group (without_late s group now k) (late_keeps (find (is_late s group now) k.rows) s group k h))

  groups_keep : (gs : List ℕ) (s : SupervisorRow) (k : Ticking) → Q k → Q (ticked_groups offsets s now gs k)
  groups_keep [] s k h = h
  groups_keep (g ∷ gs) s k h = groups_keep gs s (ticked_group offsets s now g k) (group_keeps s g k h)

  all_keep : (ss : List SupervisorRow) (k : Ticking) → Q k → Q (ticked_all offsets now ss k)
  all_keep [] k h = h
  all_keep (s ∷ ss) k h = all_keep ss (ticked_groups offsets s now (groups_of s) k) (groups_keep (groups_of s) s k h)

  pub ticked_keeps : (ss : List SupervisorRow) (us : List SequenceRow) → Q (record { rows = us; told = nothing_ticked }) → Q (ticked offsets now ss us)
  ticked_keeps ss us h = all_keep ss (record { rows = us; told = nothing_ticked }) h
