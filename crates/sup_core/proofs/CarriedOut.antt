-- What is done name by name is what was planned.
use Rattle.std.proofs.Common.{◌++◌, ◌∙◌, ◌∷◌, ◌≡◌, Bool, List, Option, [], ap, cond, false, filter, inl, inr, length, map, subst, sym, true, ℕ, ℤ}
use Rattle.std.proofs.lemmas.List.{map-append}
use Rattle.book_rows.specs.Lists.{In}
use Rattle.book_rows.specs.Sequences.{is_open, name_of, open_rows}
use Rattle.book_rows.specs.Ticks.{Ticking, groups_of, of_group, ticked}
use Rattle.book_rows.specs.declared.answers.Ticked.{Ticked}
use Rattle.book_rows.specs.declared.rows.OffsetRow.{OffsetRow}
use Rattle.book_rows.specs.declared.rows.SequenceRow.{SequenceRow}
use Rattle.book_rows.specs.declared.rows.SupervisorRow.{SupervisorRow}
use Rattle.laws_locks.proofs.Lists.{In-append, In-filter, In-map, all_from_In, map_In}
use Rattle.laws_sequences.proofs.Filters.{map_same}
use Rattle.tab_sequences.specs.Changes.{HaveDistinctNames}
use Rattle.sup_core.specs.ByNames.{abandoned_each, by_names, paused_each}
use Rattle.sup_core.specs.Kept.{AreKept}
use Rattle.sup_core.specs.Planning.{Planning, nothing_planned, planned_all, planned_group, planned_groups, with_opening, with_told}
use Rattle.sup_core.specs.Ticking.{late_index, new_row, stays_active}
use Rattle.sup_core.proofs.ByName.{each_by_names, tests_by_names}
use Rattle.sup_core.proofs.Distinct.{distinct_before, distinct_names, new_names}
use Rattle.sup_core.proofs.ToldOnes.{told_abandoned, told_paused}
use Rattle.sup_core.proofs.Walked.{plan_is, ticked_told}

-- ---- only sequences that were there are named

module _ (offsets : List OffsetRow) (now : ℤ) (us : List SequenceRow) where
  abbrev AreOld : List (List ℕ) → Type 0
  AreOld ns = (n : List ℕ) → In n ns → In n (map name_of us)

  record NamesOld (t : Ticked) : Type 0 where
    abandoned : AreOld t.abandoned
    paused : AreOld t.paused

  more_old : (ns : List (List ℕ)) (source : List ℕ) (group : ℕ) (q : SequenceRow → Bool) → AreOld ns → AreOld (ns ++ map name_of (filter q (open_rows source group us)))
  more_old ns source group q old n i = elim (In-append n ns (map name_of (filter q (open_rows source group us))) i) [
    | inl before ↦ old n before
    | inr later ↦
        (let v = In-map name_of n (filter q (open_rows source group us)) later in
        let there = In-filter (is_open source group) v.0 us (In-filter q v.0 (open_rows source group us) v.1).0 in
        subst (λ (text : List ℕ). In text (map name_of us)) (sym v.2) (map_In name_of v.0 us there.0))
  ]

  opening_old : (b : Bool) (new : SequenceRow) (p : Planning) → NamesOld p.told → NamesOld (cond b p (with_opening new p)).told
  opening_old true new p old = old
  opening_old false new p old = record { abandoned = old.abandoned; paused = old.paused }

  told_old : (late : Option ℕ) (s : SupervisorRow) (group : ℕ) (p : Planning) → NamesOld p.told → NamesOld (with_told late s now (open_rows s.source group us) p).told
  told_old late s group p old = record {
    abandoned = subst AreOld (sym (told_abandoned late s.duration now (open_rows s.source group us) p.told)) (more_old p.told.abandoned s.source group _ old.abandoned);
    paused = subst AreOld (sym (told_paused late s.duration now (open_rows s.source group us) p.told)) (more_old p.told.paused s.source group _ old.paused);
  }

  group_old : (s : SupervisorRow) (group : ℕ) (p : Planning) → NamesOld p.told → NamesOld (planned_group offsets s now us group p).told
  group_old s group p old =
      let unpublished = open_rows s.source group us in
      let late = late_index s.timeout now unpublished in
      opening_old (stays_active late unpublished) (new_row offsets s group now (length (of_group s group us)) late unpublished) (with_told late s now unpublished p) (told_old late s group p old)

  groups_old : (s : SupervisorRow) (gs : List ℕ) (p : Planning) → NamesOld p.told → NamesOld (planned_groups offsets s now us gs p).told
  groups_old s [] p old = old
  groups_old s (g ∷ gs) p old = groups_old s gs (planned_group offsets s now us g p) (group_old s g p old)

  all_old : (ss : List SupervisorRow) (p : Planning) → NamesOld p.told → NamesOld (planned_all offsets now us ss p).told
  all_old [] p old = old
  all_old (s ∷ ss) p old = all_old ss (planned_groups offsets s now us (groups_of s) p) (groups_old s (groups_of s) p old)

-- ---- the whole

module _ (offsets : List OffsetRow) (now : ℤ) (ss : List SupervisorRow) (us : List SequenceRow) (kept : AreKept ss us) where
  abbrev plan : Planning
  plan = planned_all offsets now us ss nothing_planned

  pub new_are_distinct : HaveDistinctNames (us ++ plan.opened)
  new_are_distinct =
      let told = ticked_told offsets now ss us kept in
      distinct_before plan.told.abandoned plan.told.paused us plan.opened
      (subst (λ (k : Ticking). HaveDistinctNames k.rows) (sym (plan_is offsets now ss us kept)) (distinct_names (ticked offsets now ss us).rows told.counted told.keys))

  new_stay : map (by_names plan.told.abandoned plan.told.paused) plan.opened ≡ plan.opened
  new_stay =
      let old = all_old offsets now us ss nothing_planned (record { abandoned = λ n i. absurd i; paused = λ n i. absurd i }) in
      map_same (by_names plan.told.abandoned plan.told.paused) plan.opened (all_from_In _ plan.opened (λ o i. tests_by_names plan.told.abandoned plan.told.paused o false false (new_names us plan.opened new_are_distinct plan.told.abandoned old.abandoned o i) (new_names us plan.opened new_are_distinct plan.told.paused old.paused o i)))

  pub done_by_name : paused_each plan.told.paused (abandoned_each plan.told.abandoned (us ++ plan.opened)) ≡ (ticked offsets now ss us).rows
  done_by_name =
      each_by_names plan.told.abandoned plan.told.paused (us ++ plan.opened)
      ∙ (
      map-append (by_names plan.told.abandoned plan.told.paused) us plan.opened
      ∙ (
      ap (λ vs. map (by_names plan.told.abandoned plan.told.paused) us ++ vs) new_stay
      ∙ ap (λ (k : Ticking). k.rows) (plan_is offsets now ss us kept)
      )
      )
