-- Keys of supervisors and sequences: an index of a group is below the number of its sequences.
use Rattle.std.proofs.Common.{Bool, List, None, Option, Some, [], ap, arith, bytes_eq, cond, false, filter, find, inl, inr, length, length-append, map, refl, subst, sym, true, ℕ, ℤ, ◌+◌, ◌++◌, ◌<◌, ◌==◌, ◌∙◌, ◌∷◌, ◌≡◌, ◌≤◌}
use Rattle.std.proofs.lemmas.Bool.{and_from, and_parts, cases_Bool, false≢true}
use Rattle.std.proofs.lemmas.Bool.Decides.{Decides-eqb}
use Rattle.std.proofs.lemmas.List.Elements.{filter-append}
use Rattle.std.proofs.lemmas.Slice.Eq.{bytes_eq-Decides}
use Rattle.std.specs.List.{list_any}
use Rattle.book_rows.specs.Lists.{In}
use Rattle.book_rows.specs.Sequences.{abandoned, is_of_group}
use Rattle.book_rows.specs.Shape.{AreDistinct, same_sequence, same_supervisor}
use Rattle.book_rows.specs.Sound.{Sound}
use Rattle.book_rows.specs.Ticks.{Ticking, groups_of, is_active, is_late, late_from, opened_row, opens, stopped, ticked_all, ticked_group, ticked_groups, with_stopped, without_late}
use Rattle.book_rows.specs.declared.rows.Book.{Book}
use Rattle.book_rows.specs.declared.rows.OffsetRow.{OffsetRow}
use Rattle.book_rows.specs.declared.rows.SequenceRow.{SequenceRow}
use Rattle.book_rows.specs.declared.rows.SupervisorRow.{SupervisorRow}
use Rattle.laws_sequences.specs.Links.{AreCounted}
use Rattle.laws_sequences.proofs.RuleParts.{all_counted}
use Rattle.laws_chunks.proofs.LookUps.{find_none}
use Rattle.laws_chunks.proofs.Members.{In-append, In-map, all_from_In, filter_In, map_In, pairs_map, pairs_push}
use Rattle.laws_chunks.proofs.WholeParts.{range_within}

-- how many sequences the group of a sequence has
abbrev group_size : SequenceRow → List SequenceRow → ℕ
group_size u us = length (filter (is_of_group u.source u.group) us)

-- no two supervisors are of one source, no two sequences of one group and index, and indexes are below the number of their group's sequences
pub record HasGroupKeys (ss : List SupervisorRow) (us : List SequenceRow) : Type 0 where
  pub supervisors : AreDistinct same_supervisor ss
  pub sequences : AreDistinct same_sequence us
  pub below : (u : SequenceRow) → In u us → u.index < length (filter (is_of_group u.source u.group) us)

-- ---- a sound book has them

of_own_group : (u : SequenceRow) → is_of_group u.source u.group u ≡ true
of_own_group u = and_from (bytes_eq u.source u.source) (u.group == u.group) ((bytes_eq-Decides u.source u.source).1 refl) ((Decides-eqb u.group u.group).1 refl)

counted_below : (us : List SequenceRow) → AreCounted us → (u : SequenceRow) → In u us → u.index < group_size u us
counted_below us h u i =
    let among : In u.index (map (λ (u : SequenceRow). u.index) (filter (is_of_group u.source u.group) us)) = map_In (λ (u : SequenceRow). u.index) u (filter (is_of_group u.source u.group) us) (filter_In (is_of_group u.source u.group) u us i (of_own_group u)) in
    let high : u.index < 0 + group_size u us = (range_within u.index 0 (group_size u us) (subst (λ ns. In u.index ns) (h u.source u.group) among)).1 in
    omega (arith, high)

pub keys_before : (b : Book) → Sound b → HasGroupKeys b.supervisors b.sequences
keys_before b s = record { supervisors = s.shape.keys.supervisors; sequences = s.shape.keys.sequences; below = counted_below b.sequences (all_counted b s.sequences) }

-- ---- a supervisor more

pub keys_supervised : (ss : List SupervisorRow) (us : List SequenceRow) (s : SupervisorRow) → find (λ z. bytes_eq z.source s.source) ss ≡ None → HasGroupKeys ss us → HasGroupKeys (ss ++ s ∷ []) us
keys_supervised ss us s new h = record {
  supervisors = pairs_push (λ z y. same_supervisor z y ≡ false) ss s h.supervisors (all_from_In (λ z. same_supervisor z s ≡ false) ss (λ z i. find_none (λ z. bytes_eq z.source s.source) ss new z i));
  sequences = h.sequences;
  below = h.below;
}

-- ---- sequences change, but for their keys

pub record KeepsKeys (f : SequenceRow → SequenceRow) : Type 0 where
  pub source_is : (u : SequenceRow) → (f u).source ≡ u.source
  pub group_is : (u : SequenceRow) → (f u).group ≡ u.group
  pub index_is : (u : SequenceRow) → (f u).index ≡ u.index

module _ (f : SequenceRow → SequenceRow) (k : KeepsKeys f) where
  group_as_long : (source : List ℕ) (group : ℕ) (us : List SequenceRow) → length (filter (is_of_group source group) (map f us)) ≡ length (filter (is_of_group source group) us)
  group_as_long source group [] = refl
  group_as_long source group (u ∷ us) =
      step (is_of_group source group (f u)) (is_of_group source group u) (rw (k.source_is u, k.group_is u) refl) (group_as_long source group us) where
        step : (x y : Bool) → x ≡ y → length (filter (is_of_group source group) (map f us)) ≡ length (filter (is_of_group source group) us)
            → length (cond x (f u ∷ filter (is_of_group source group) (map f us)) (filter (is_of_group source group) (map f us))) ≡ length (cond y (u ∷ filter (is_of_group source group) us) (filter (is_of_group source group) us))
        step true true e rest = omega (arith, rest)
        step true false e rest = absurd (false≢true (sym e))
        step false true e rest = absurd (false≢true e)
        step false false e rest = rest

  still_differ : (u v : SequenceRow) → same_sequence u v ≡ false → same_sequence (f u) (f v) ≡ false
  still_differ u v h = rw (k.source_is u, k.group_is u, k.index_is u, k.source_is v, k.group_is v, k.index_is v) h

  still_below : (us : List SequenceRow) (u : SequenceRow) → u.index < group_size u us → (f u).index < group_size (f u) (map f us)
  still_below us u h = rw (k.source_is u, k.group_is u, k.index_is u, group_as_long u.source u.group us) h

  pub keys_mapped : (ss : List SupervisorRow) (us : List SequenceRow) → HasGroupKeys ss us → HasGroupKeys ss (map f us)
  keys_mapped ss us h = record {
    supervisors = h.supervisors;
    sequences = pairs_map (λ u v. same_sequence u v ≡ false) (λ u v. same_sequence u v ≡ false) f still_differ us h.sequences;
    below = λ u i. (let w = In-map f u us i in subst (λ u. u.index < group_size u (map f us)) (sym w.2) (still_below us w.0 (h.below w.0 w.1)));
  }

-- ---- a sequence is opened

module _ (us : List SequenceRow) (u : SequenceRow) (next : u.index ≡ group_size u us) where
  group_longer : (source : List ℕ) (group : ℕ) → length (filter (is_of_group source group) (us ++ u ∷ [])) ≡ length (filter (is_of_group source group) us) + length (filter (is_of_group source group) (u ∷ []))
  group_longer source group = ap length (filter-append (is_of_group source group) us (u ∷ [])) ∙ length-append (filter (is_of_group source group) us) (filter (is_of_group source group) (u ∷ []))

  one_longer : group_size u (us ++ u ∷ []) ≡ group_size u us + 1
  one_longer = group_longer u.source u.group ∙ ap (λ (b : Bool). group_size u us + length (cond b (u ∷ []) [])) (of_own_group u)

  no_shorter : (v : SequenceRow) → group_size v us ≤ group_size v (us ++ u ∷ [])
  no_shorter v = let more = group_longer v.source v.group in omega (arith, more)

  -- an index of before is lower
  opened_differs : (v : SequenceRow) → v.index < group_size v us → same_sequence v u ≡ false
  opened_differs v low = elim (cases_Bool (same_sequence v u)) [
    | inr off ↦ off
    | inl on ↦
        let both = and_parts (is_of_group v.source v.group u) (v.index == u.index) on in
        let group = and_parts (bytes_eq u.source v.source) (u.group == v.group) both.0 in
        let source_is : u.source ≡ v.source = (bytes_eq-Decides u.source v.source).0 group.0 in
        let group_is : u.group ≡ v.group = (Decides-eqb u.group v.group).0 group.1 in
        let index_is : v.index ≡ u.index = (Decides-eqb v.index u.index).0 both.1 in
        let as_long : group_size u us ≡ group_size v us = rw (source_is, group_is) refl in
        absurd (clash v.index u.index (group_size u us) (group_size v us) low index_is next as_long)
  ] where
    clash : (m n p q : ℕ) → m < q → m ≡ n → n ≡ p → p ≡ q → ⊥
    clash m n p q low a b c = omega (arith, low, a, b, c)

  pub keys_opened : (ss : List SupervisorRow) → HasGroupKeys ss us → HasGroupKeys ss (us ++ u ∷ [])
  keys_opened ss h = record {
    supervisors = h.supervisors;
    sequences = pairs_push (λ v w. same_sequence v w ≡ false) us u h.sequences (all_from_In (λ v. same_sequence v u ≡ false) us (λ v i. opened_differs v (h.below v i)));
    below = λ v i. elim (In-append v us (u ∷ []) i) [
      | inl old ↦ (let low = h.below v old in let longer = no_shorter v in omega (arith, low, longer))
      | inr (inl is) ↦ subst (λ v. v.index < group_size v (us ++ u ∷ [])) (sym is) (let longer = one_longer in omega (arith, next, longer))
      | inr (inr none) ↦ absurd none
    ];
  }

-- ---- the clock is stepped

module _ (all : List SupervisorRow) (offsets : List OffsetRow) (now : ℤ) where
  late_keep : (o : Option SequenceRow) (s : SupervisorRow) (group : ℕ) (k : Ticking) → HasGroupKeys all k.rows → HasGroupKeys all (late_from o s group k).rows
  late_keep None s group k h = h
  late_keep (Some u) s group k h = keys_mapped (abandoned s.source group u.index) (record { source_is = λ u. refl; group_is = λ u. refl; index_is = λ u. refl }) all k.rows h

  opened_keep : (b : Bool) (s : SupervisorRow) (group : ℕ) (k : Ticking) → HasGroupKeys all k.rows → HasGroupKeys all (cond b k (opens (opened_row offsets s group now k.rows) k)).rows
  opened_keep true s group k h = h
  opened_keep false s group k h = keys_opened k.rows (opened_row offsets s group now k.rows) refl all h

  group_keeps : (s : SupervisorRow) (group : ℕ) (k : Ticking) → HasGroupKeys all k.rows → HasGroupKeys all (ticked_group offsets s now group k).rows
  group_keeps s group k h =
      let late = without_late s group now k in
      let paused = with_stopped s group now late in
      opened_keep (list_any (is_active s group) paused.rows) s group paused
      (keys_mapped (stopped s group now) (record { source_is = λ u. refl; group_is = λ u. refl; index_is = λ u. refl }) all late.rows (late_keep (find (is_late s group now) k.rows) s group k h))

  groups_keep : (s : SupervisorRow) (groups : List ℕ) (k : Ticking) → HasGroupKeys all k.rows → HasGroupKeys all (ticked_groups offsets s now groups k).rows
  groups_keep s [] k h = h
  groups_keep s (g ∷ gs) k h = groups_keep s gs (ticked_group offsets s now g k) (group_keeps s g k h)

  pub keys_ticked : (ss : List SupervisorRow) (k : Ticking) → HasGroupKeys all k.rows → HasGroupKeys all (ticked_all offsets now ss k).rows
  keys_ticked [] k h = h
  keys_ticked (s ∷ ss) k h = keys_ticked ss (ticked_groups offsets s now (groups_of s) k) (groups_keep s (groups_of s) k h)
