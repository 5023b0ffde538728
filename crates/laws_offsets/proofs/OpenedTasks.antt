-- The tasks that a step of the clock adds have the sources of the supervisors.
use Rattle.std.proofs.Common.{◌≡◌, ℕ, ℤ, Bool, true, false, cond, List, [], ◌∷◌, map, find, Some, None, Option, refl}
use Rattle.std.specs.List.{list_all, list_any}
use Rattle.std.proofs.lemmas.Bool.{and_from, and_parts}
use Rattle.book_rows.specs.Ticks.{Ticking, groups_of, is_active, is_late, late_from, nothing_ticked, opened_row, opens, replica_row, ticked, ticked_all, ticked_group, ticked_groups, with_stopped, without_late}
use Rattle.book_rows.specs.declared.rows.OffsetRow.{OffsetRow}
use Rattle.book_rows.specs.declared.rows.SequenceRow.{SequenceRow}
use Rattle.book_rows.specs.declared.rows.SupervisorRow.{SupervisorRow}
use Rattle.book_rows.specs.declared.rows.TaskRow.{TaskRow}
use Rattle.laws_offsets.proofs.Lists.{more_pass}

-- a test of sources
module _ (named : List ℕ → Bool) where
  abbrev passes : TaskRow → Bool
  passes t = named t.source

  -- all tasks that are to be added so far pass it
  abbrev AllPass : Ticking → Type 0
  AllPass k = list_all passes k.told.submitted ≡ true

  replicas_pass : (u : SequenceRow) (tasks : List (List ℕ)) → named u.source ≡ true → list_all passes (map (replica_row u) tasks) ≡ true
  replicas_pass u [] e = refl
  replicas_pass u (task ∷ tasks) e = and_from (named u.source) (list_all passes (map (replica_row u) tasks)) e (replicas_pass u tasks e)

  late_pass : (o : Option SequenceRow) (s : SupervisorRow) (group : ℕ) (k : Ticking) → AllPass k → AllPass (late_from o s group k)
  late_pass None s group k h = h
  late_pass (Some u) s group k h = h

  opens_pass : (u : SequenceRow) (k : Ticking) → named u.source ≡ true → AllPass k → AllPass (opens u k)
  opens_pass u k e h =
      more_pass passes k.told.submitted (map (replica_row u) u.live) h (replicas_pass u u.live e)

  opened_pass : (active : Bool) (u : SequenceRow) (k : Ticking) → named u.source ≡ true → AllPass k → AllPass (cond active k (opens u k))
  opened_pass true u k e h = h
  opened_pass false u k e h = opens_pass u k e h

  group_pass : (offsets : List OffsetRow) (s : SupervisorRow) (now : ℤ) (group : ℕ) (k : Ticking) → named s.source ≡ true → AllPass k → AllPass (ticked_group offsets s now group k)
  group_pass offsets s now group k e h =
      let stopped : Ticking = with_stopped s group now (without_late s group now k) in
      opened_pass (list_any (is_active s group) stopped.rows) (opened_row offsets s group now stopped.rows) stopped e (late_pass (find (is_late s group now) k.rows) s group k h)

  groups_pass : (offsets : List OffsetRow) (s : SupervisorRow) (now : ℤ) (gs : List ℕ) (k : Ticking) → named s.source ≡ true → AllPass k → AllPass (ticked_groups offsets s now gs k)
  groups_pass offsets s now [] k e h = h
  groups_pass offsets s now (g ∷ gs) k e h = groups_pass offsets s now gs (ticked_group offsets s now g k) e (group_pass offsets s now g k e h)

  all_pass : (offsets : List OffsetRow) (now : ℤ) (ss : List SupervisorRow) (k : Ticking) → list_all (λ s. named s.source) ss ≡ true → AllPass k → AllPass (ticked_all offsets now ss k)
  all_pass offsets now [] k e h = h
  all_pass offsets now (s ∷ ss) k e h =
      let both = and_parts (named s.source) (list_all (λ s. named s.source) ss) e in
      all_pass offsets now ss (ticked_groups offsets s now (groups_of s) k) both.1 (groups_pass offsets s now (groups_of s) k both.0 h)

  -- whatever test the sources of all supervisors pass
  pub opened_are_named : (offsets : List OffsetRow) (now : ℤ) (ss : List SupervisorRow) (us : List SequenceRow) → list_all (λ s. named s.source) ss ≡ true → list_all passes (ticked offsets now ss us).told.submitted ≡ true
  opened_are_named offsets now ss us e = all_pass offsets now ss (record { rows = us; told = nothing_ticked }) e refl
