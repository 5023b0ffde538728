-- What is planned of all groups, from the sequences as they stand, is what a tick makes of them.
use Rattle.std.proofs.Common.{◌&&◌, ◌+◌, ◌++◌, ◌<◌, ◌==◌, ◌^◌, ◌∙◌, ◌∷◌, ◌≡◌, ◌≤◌, Bool, List, None, Option, Some, [], ap, arith, bytes_eq, cond, false, filter, find, inl, inr, length, map, refl, subst, suc, sym, true, zero, ℕ, ℤ}
use Rattle.std.specs.List.{AllByRecursion, list_any, range_with_len}
use Rattle.std.proofs.lemmas.Bool.{ne_eqb}
use Rattle.std.proofs.lemmas.List.{append-nil, map-id}
use Rattle.book_rows.specs.Lists.{In, Pairs}
use Rattle.laws_sequences.specs.Links.{AreCounted}
use Rattle.book_rows.specs.Sequences.{abandoned, is_of_group}
use Rattle.book_rows.specs.Shape.{AreDistinct, same_supervisor}
use Rattle.book_rows.specs.Ticks.{Ticking, groups_of, has_partitions, is_active, is_late, late_from, nothing_ticked, of_group, opened_row, opens, stopped, ticked, ticked_all, ticked_group, ticked_groups, with_stopped, without_late}
use Rattle.book_rows.specs.declared.rows.OffsetRow.{OffsetRow}
use Rattle.book_rows.specs.declared.rows.SequenceRow.{SequenceRow}
use Rattle.book_rows.specs.declared.rows.SupervisorRow.{SupervisorRow}
use Rattle.laws_locks.proofs.Lists.{In-all, In-filter, all_from_In, all_map, all_push, pairs_filter}
use Rattle.laws_sequences.proofs.Abandoned.{abandoned_keys}
use Rattle.laws_sequences.proofs.Counts.{KeepsKeys, counted_map, counted_push, in_range}
use Rattle.laws_sequences.proofs.Filters.{filter_shorter}
use Rattle.laws_sequences.proofs.Keys.{few_rows}
use Rattle.tab_sequences.specs.Changes.{HaveDistinctNames}
use Rattle.sup_core.specs.Kept.{AreKept, HasGroups, HasKey}
use Rattle.sup_core.specs.Planning.{Planning, carried_out, nothing_planned, planned_all, planned_group, planned_groups}
use Rattle.sup_core.proofs.Distinct.{distinct_names}
use Rattle.sup_core.proofs.GroupTold.{group_size}
use Rattle.sup_core.proofs.Planned.{planned_step}
use Rattle.sup_core.proofs.Untouched.{group_leaves, groups_leave}

-- ---- what each step keeps

-- the indexes of a group are counted from 0, and names tell sequences apart
pub record AreTold (us : List SequenceRow) : Type 0 where
  pub counted : AreCounted us
  pub keys : AllByRecursion HasKey us

module _ (offsets : List OffsetRow) (s : SupervisorRow) (own : HasGroups s) (now : ℤ) (group : ℕ) (fits : group < 2 ^ 64) where
  told_late : (o : Option SequenceRow) (k : Ticking) → AreTold k.rows → AreTold (late_from o s group k).rows
  told_late None k t = t
  told_late (Some u) k t = record {
    counted = counted_map (abandoned s.source group u.index) (abandoned_keys s.source group u.index) k.rows t.counted;
    keys = all_map HasKey HasKey (abandoned s.source group u.index) (λ v key. key) k.rows t.keys;
  }

  stopped_keys : KeepsKeys (stopped s group now)
  stopped_keys = record { source_is = λ u. refl; group_is = λ u. refl; index_is = λ u. refl }

  told_stopped : (k : Ticking) → AreTold k.rows → AreTold (with_stopped s group now k).rows
  told_stopped k t = record {
    counted = counted_map (stopped s group now) stopped_keys k.rows t.counted;
    keys = all_map HasKey HasKey (stopped s group now) (λ v key. key) k.rows t.keys;
  }

  told_opened : (b : Bool) (k : Ticking) → length (of_group s group k.rows) < 2 ^ 64 → AreTold k.rows → AreTold (cond b k (opens (opened_row offsets s group now k.rows) k)).rows
  told_opened true k few t = t
  told_opened false k few t = record {
    counted = counted_push k.rows (opened_row offsets s group now k.rows) refl t.counted;
    keys = all_push HasKey k.rows (opened_row offsets s group now k.rows) t.keys (record { source_is = own.source_is; group_fits = fits; index_fits = few });
  }

  pub told_group : (k : Ticking) → length (of_group s group k.rows) < 2 ^ 64 → AreTold k.rows → AreTold (ticked_group offsets s now group k).rows
  told_group k few t =
      let after = with_stopped s group now (without_late s group now k) in
      told_opened (list_any (is_active s group) after.rows) after (subst (λ (n : ℕ). n < 2 ^ 64) (sym (group_size s group now k)) few)
      (told_stopped (without_late s group now k) (told_late (find (is_late s group now) k.rows) k t))

-- ---- the groups of a supervisor

range_above : (n a m : ℕ) → In m (range_with_len a n) → a ≤ m
range_above zero a m i = absurd i
range_above (suc n) a m (inl e) = same a m e where
  same : (a m : ℕ) → m ≡ a → a ≤ m
  same a m e = omega arith
range_above (suc n) a m (inr i) = lower a m (range_above n (a + 1) m i) where
  lower : (a m : ℕ) → a + 1 ≤ m → a ≤ m
  lower a m h = omega arith

abbrev AreApart : List ℕ → Type 0
AreApart gs = Pairs (λ g h. (g == h) ≡ false) gs

range_apart : (n a : ℕ) → AreApart (range_with_len a n)
range_apart zero a = tt
range_apart (suc n) a = (all_from_In (λ h. (a == h) ≡ false) (range_with_len (a + 1) n) (λ h i. ne_eqb a h (never a h (range_above n (a + 1) h i))), range_apart n (a + 1)) where
  never : (a h : ℕ) → a + 1 ≤ h → a ≡ h → ⊥
  never a h above same = omega arith

groups_apart : (s : SupervisorRow) → AreApart (groups_of s)
groups_apart s = pairs_filter (λ g h. (g == h) ≡ false) (has_partitions s) (range_with_len 0 s.task_count) (range_apart s.task_count 0)

pub group_fits : (s : SupervisorRow) → HasGroups s → (g : ℕ) → In g (groups_of s) → g < 2 ^ 64
group_fits s own g i = below g s.task_count (in_range s.task_count 0 g (In-filter (has_partitions s) g (range_with_len 0 s.task_count) i).0) own.groups_fit where
  below : (g n : ℕ) → g < 0 + n → n < 2 ^ 32 → g < 2 ^ 64
  below g n a b = omega arith

off_right : (b c : Bool) → c ≡ false → (b && c) ≡ false
off_right true c e = e
off_right false c e = refl

off_left : (b c : Bool) → b ≡ false → (b && c) ≡ false
off_left b c e = rw e refl

module _ (offsets : List OffsetRow) (now : ℤ) (us : List SequenceRow) (few : length us < 2 ^ 64) where
  -- the sequences of a group are still those that were there
  abbrev IsBefore : List ℕ → Ticking → ℕ → Type 0
  IsBefore source k group = filter (is_of_group source group) k.rows ≡ filter (is_of_group source group) us

  few_of : (s : SupervisorRow) (group : ℕ) (k : Ticking) → IsBefore s.source k group → length (of_group s group k.rows) < 2 ^ 64
  few_of s group k before = subst (λ (vs : List SequenceRow). length vs < 2 ^ 64) (sym before) (within (length (of_group s group us)) (length us) (filter_shorter (is_of_group s.source group) us) few) where
    within : (n m : ℕ) → n ≤ m → m < 2 ^ 64 → n < 2 ^ 64
    within n m a b = omega arith

  step_from : (s : SupervisorRow) (group : ℕ) (p : Planning) (k : Ticking) → carried_out us p ≡ k → AreTold k.rows → IsBefore s.source k group → carried_out us (planned_group offsets s now us group p) ≡ ticked_group offsets s now group k
  step_from s group p k is t before =
      planned_step us s group now p
      (subst (λ (j : Ticking). HaveDistinctNames j.rows) (sym is) (distinct_names k.rows t.counted t.keys))
      (subst (λ (j : Ticking). IsBefore s.source j group) (sym is) before)
      offsets
      ∙ ap (λ (j : Ticking). ticked_group offsets s now group j) is

  -- the plan is the tick, and each step keeps what the next one needs
  record IsTicked (p : Planning) (k : Ticking) : Type 0 where
    is : carried_out us p ≡ k
    told : AreTold k.rows

  planned_of : (s : SupervisorRow) → HasGroups s → (gs : List ℕ) (p : Planning) (k : Ticking) → IsTicked p k → AllByRecursion (IsBefore s.source k) gs → AllByRecursion (λ g. g < 2 ^ 64) gs → AreApart gs
      → IsTicked (planned_groups offsets s now us gs p) (ticked_groups offsets s now gs k)
  planned_of s own [] p k t before fits apart = t
  planned_of s own (g ∷ gs) p k t before fits apart =
      planned_of s own gs (planned_group offsets s now us g p) (ticked_group offsets s now g k)
      (record { is = step_from s g p k t.is t.told before.0; told = told_group offsets s own now g fits.0 k (few_of s g k before.0) t.told })
      (all_from_In (IsBefore s.source (ticked_group offsets s now g k)) gs (λ h i.
      group_leaves s.source h offsets s now g (off_right (bytes_eq s.source s.source) (g == h) (In-all (λ j. (g == j) ≡ false) h gs i apart.0)) k
      ∙ In-all (IsBefore s.source k) h gs i before.1))
      fits.1 apart.1

  planned_through : (vs : List SupervisorRow) (p : Planning) (k : Ticking) → IsTicked p k → AllByRecursion (λ v. (g : ℕ) → IsBefore v.source k g) vs → AreDistinct same_supervisor vs → AllByRecursion HasGroups vs
      → IsTicked (planned_all offsets now us vs p) (ticked_all offsets now vs k)
  planned_through [] p k t before distinct own = t
  planned_through (v ∷ vs) p k t before distinct own =
      planned_through vs (planned_groups offsets v now us (groups_of v) p) (ticked_groups offsets v now (groups_of v) k)
      (planned_of v own.0 (groups_of v) p k t (all_from_In (IsBefore v.source k) (groups_of v) (λ g i. before.0 g)) (all_from_In (λ g. g < 2 ^ 64) (groups_of v) (group_fits v own.0)) (groups_apart v))
      (all_from_In (λ w. (g : ℕ) → IsBefore w.source (ticked_groups offsets v now (groups_of v) k) g) vs (λ w i g.
      groups_leave w.source g offsets v now (groups_of v)
      (all_from_In (λ h. (bytes_eq v.source w.source && (h == g)) ≡ false) (groups_of v) (λ h j. off_left (bytes_eq v.source w.source) (h == g) (In-all (λ x. same_supervisor v x ≡ false) w vs i distinct.0)))
      k
      ∙ In-all (λ x. (g : ℕ) → IsBefore x.source k g) w vs i before.1 g))
      distinct.1 own.1

-- ---- from the table

module _ (offsets : List OffsetRow) (now : ℤ) (ss : List SupervisorRow) (us : List SequenceRow) (kept : AreKept ss us) where
  start_is : carried_out us nothing_planned ≡ record { rows = us; told = nothing_ticked }
  start_is = λ i. record { rows = rows i; told = nothing_ticked } where
    rows : map (λ u. u) us ++ [] ≡ us
    rows = rw (append-nil, map-id) refl

  whole : IsTicked offsets now us (few_rows (length us) kept.room) (planned_all offsets now us ss nothing_planned) (ticked offsets now ss us)
  whole = planned_through offsets now us (few_rows (length us) kept.room) ss nothing_planned (record { rows = us; told = nothing_ticked })
      (record { is = start_is; told = record { counted = kept.counted; keys = kept.keys } })
      (all_from_In _ ss (λ v i g. refl)) kept.sources kept.groups

  pub plan_is : carried_out us (planned_all offsets now us ss nothing_planned) ≡ ticked offsets now ss us
  plan_is = whole.is

  pub ticked_told : AreTold (ticked offsets now ss us).rows
  ticked_told = whole.told
