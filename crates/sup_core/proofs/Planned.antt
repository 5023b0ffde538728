-- What is planned of a group, from the sequences as they stand, is what a tick's step makes of the group after the steps before.
use Rattle.std.proofs.Common.{◌&&◌, ◌++◌, ◌∙◌, ◌∷◌, ◌≡◌, Bool, List, None, Option, Some, [], ap, append_assoc, cond, false, filter, find, length, map, not, refl, subst, sym, true, ℕ, ℤ}
use Rattle.std.specs.List.{list_any}
use Rattle.std.specs.Option.{option_map}
use Rattle.std.proofs.lemmas.List.{map-append}
use Rattle.book_rows.specs.Kinds.{is_unpublished}
use Rattle.book_rows.specs.Lists.{In}
use Rattle.book_rows.specs.Sequences.{is_of_group, is_open, name_of, open_rows}
use Rattle.book_rows.specs.Ticks.{Ticking, is_active, is_late, late_from, of_group, opens, replica_row, stopped, ticked_group, with_stopped, without_late}
use Rattle.book_rows.specs.declared.rows.OffsetRow.{OffsetRow}
use Rattle.book_rows.specs.declared.rows.SequenceRow.{SequenceRow}
use Rattle.book_rows.specs.declared.rows.SupervisorRow.{SupervisorRow}
use Rattle.laws_locks.proofs.Lists.{In-filter, In-map, all_from_In, map_In}
use Rattle.laws_sequences.proofs.Filters.{filter_both, map_same}
use Rattle.tab_sequences.specs.Changes.{HaveDistinctNames}
use Rattle.sup_core.specs.ByNames.{by_names}
use Rattle.sup_core.specs.Planning.{Planning, carried_out, planned_by, planned_group, with_opening, with_told}
use Rattle.sup_core.specs.Ticking.{is_done_reading, is_from, late_index, new_row, stays_active, told_all}
use Rattle.sup_core.proofs.ByName.{by_names_more, map_both, tests_by_names}
use Rattle.sup_core.proofs.Distinct.{distinct_before, new_names}
use Rattle.sup_core.proofs.GroupTold.{group_active, group_opened, group_told, late_is}
use Rattle.sup_core.proofs.Settling.{late_names, over_names, settled_rows}
use Rattle.sup_core.proofs.ToldOnes.{told_abandoned, told_paused}

-- the unpublished sequences of a group are told by all that are of the group
pub open_of_group : (source : List ℕ) (group : ℕ) (us vs : List SequenceRow) → filter (is_of_group source group) us ≡ filter (is_of_group source group) vs → open_rows source group us ≡ open_rows source group vs
open_of_group source group us vs same =
    filter_both (is_of_group source group) (λ u. is_unpublished u.state) us
    ∙ (ap (λ ws. filter (λ u. is_unpublished u.state) ws) same ∙ sym (filter_both (is_of_group source group) (λ u. is_unpublished u.state) vs))

-- ---- the first two steps, on the sequences that they find

module _ (s : SupervisorRow) (group : ℕ) (now : ℤ) (k : Ticking) (distinct : HaveDistinctNames k.rows) where
  abbrev open_before : List SequenceRow
  open_before = open_rows s.source group k.rows

  abbrev late : Option ℕ
  late = late_index s.timeout now open_before

  rows_found : (o : Option SequenceRow) → map (stopped s group now) (late_from o s group k).rows
      ≡ map (by_names (late_names s group now (option_map (λ v. v.index) o) open_before) (over_names s group now (option_map (λ v. v.index) o) open_before)) k.rows
  rows_found None = settled_rows s group now k.rows distinct None
  rows_found (Some v) = settled_rows s group now k.rows distinct (Some v.index)

  pub group_rows : (with_stopped s group now (without_late s group now k)).rows ≡ map (by_names (late_names s group now late open_before) (over_names s group now late open_before)) k.rows
  group_rows =
      rows_found (find (is_late s group now) k.rows)
      ∙ ap (λ (o : Option ℕ). map (by_names (late_names s group now o open_before) (over_names s group now o open_before)) k.rows) (sym (late_is s group now k))

-- ---- all three

module _ (us : List SequenceRow) where
  -- a sequence that opens stands behind the others
  opened_on : (new : SequenceRow) (q : Planning) → carried_out us (with_opening new q) ≡ opens new (carried_out us q)
  opened_on new q = λ i. record {
    rows = sym (append_assoc (map (by_names q.told.abandoned q.told.paused) us) q.opened (new ∷ [])) i;
    told = record q.told { opened = q.told.opened ++ name_of new ∷ []; submitted = q.told.submitted ++ map (replica_row new) new.live };
  }

  opened_where : (b : Bool) (new : SequenceRow) (q : Planning) → carried_out us (cond b q (with_opening new q)) ≡ cond b (carried_out us q) (opens new (carried_out us q))
  opened_where true new q = refl
  opened_where false new q = opened_on new q

  module _ (s : SupervisorRow) (group : ℕ) (now : ℤ) (p : Planning)
      (distinct : HaveDistinctNames (carried_out us p).rows)
      (apart : filter (is_of_group s.source group) (carried_out us p).rows ≡ filter (is_of_group s.source group) us) where
    abbrev k : Ticking
    k = carried_out us p

    abbrev unpublished : List SequenceRow
    unpublished = open_rows s.source group k.rows

    abbrev from : Option ℕ
    from = late_index s.timeout now unpublished

    abbrev after : Ticking
    after = with_stopped s group now (without_late s group now k)

    -- their names are those of sequences that were there
    old_names : (q : SequenceRow → Bool) (n : List ℕ) → In n (map name_of (filter q unpublished)) → In n (map name_of us)
    old_names q n i =
        let v = In-map name_of n (filter q unpublished) i in
        let there = In-filter q v.0 unpublished v.1 in
        let was : In v.0 (open_rows s.source group us) = subst (λ (vs : List SequenceRow). In v.0 vs) (open_of_group s.source group k.rows us apart) there.0 in
        subst (λ (text : List ℕ). In text (map name_of us)) (sym v.2) (map_In name_of v.0 us (In-filter (is_open s.source group) v.0 us was).0)

    -- those that opened in other groups stay
    others_stay : map (by_names (late_names s group now from unpublished) (over_names s group now from unpublished)) p.opened ≡ p.opened
    others_stay = map_same (by_names (late_names s group now from unpublished) (over_names s group now from unpublished)) p.opened (all_from_In _ p.opened (λ o i. tests_by_names (late_names s group now from unpublished) (over_names s group now from unpublished) o false false
        (new_names us p.opened (distinct_before p.told.abandoned p.told.paused us p.opened distinct) (late_names s group now from unpublished) (old_names (is_from from)) o i)
        (new_names us p.opened (distinct_before p.told.abandoned p.told.paused us p.opened distinct) (over_names s group now from unpublished) (old_names (λ u. not (is_from from u) && is_done_reading s.duration now u)) o i)))

    rows_told : map (by_names (p.told.abandoned ++ late_names s group now from unpublished) (p.told.paused ++ over_names s group now from unpublished)) us ++ p.opened ≡ after.rows
    rows_told =
        ap (λ vs. vs ++ p.opened)
        (sym (map_both (by_names (late_names s group now from unpublished) (over_names s group now from unpublished)) (by_names p.told.abandoned p.told.paused) (by_names (p.told.abandoned ++ late_names s group now from unpublished) (p.told.paused ++ over_names s group now from unpublished))
        (by_names_more p.told.abandoned p.told.paused (late_names s group now from unpublished) (over_names s group now from unpublished)) us))
        ∙ (
        ap (λ vs. map (by_names (late_names s group now from unpublished) (over_names s group now from unpublished)) (map (by_names p.told.abandoned p.told.paused) us) ++ vs) (sym others_stay)
        ∙ (
        sym (map-append (by_names (late_names s group now from unpublished) (over_names s group now from unpublished)) (map (by_names p.told.abandoned p.told.paused) us) p.opened)
        ∙ sym (group_rows s group now k distinct)
        )
        )

    told_on : carried_out us (with_told from s now unpublished p) ≡ after
    told_on = λ i. record { rows = rows i; told = sym (group_told s group now k) i } where
      rows : map (by_names (told_all from s.duration now p.told unpublished).abandoned (told_all from s.duration now p.told unpublished).paused) us ++ p.opened ≡ after.rows
      rows =
          ap (λ ns. map (by_names ns (told_all from s.duration now p.told unpublished).paused) us ++ p.opened) (told_abandoned from s.duration now unpublished p.told)
          ∙ (
          ap (λ ns. map (by_names (p.told.abandoned ++ late_names s group now from unpublished) ns) us ++ p.opened) (told_paused from s.duration now unpublished p.told)
          ∙ rows_told
          )

    module _ (offsets : List OffsetRow) where
      abbrev new : SequenceRow
      new = new_row offsets s group now (length (of_group s group k.rows)) from unpublished

      as_found : carried_out us (planned_group offsets s now us group p) ≡ carried_out us (planned_by offsets s now group (length (of_group s group k.rows)) unpublished p)
      as_found =
          ap (λ (n : ℕ). carried_out us (planned_by offsets s now group n (open_rows s.source group us) p)) (ap (λ (vs : List SequenceRow). length vs) (sym apart))
          ∙ ap (λ (vs : List SequenceRow). carried_out us (planned_by offsets s now group (length (of_group s group k.rows)) vs p)) (sym (open_of_group s.source group k.rows us apart))

      pub planned_step : carried_out us (planned_group offsets s now us group p) ≡ ticked_group offsets s now group (carried_out us p)
      planned_step =
          as_found
          ∙ (
          opened_where (stays_active from unpublished) new (with_told from s now unpublished p)
          ∙ (
          ap (λ (a : Ticking). cond (stays_active from unpublished) a (opens new a)) told_on
          ∙ (
          ap (λ (b : Bool). cond b after (opens new after)) (sym (group_active s group now k))
          ∙ ap (λ (u : SequenceRow). cond (list_any (is_active s group) after.rows) after (opens u after)) (sym (group_opened s group now k offsets))
          )
          )
          )
