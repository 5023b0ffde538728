-- The indexes of a group are counted from 0: what that gives, and what keeps it.
use Rattle.std.proofs.Common.{◌≡◌, ℕ, zero, suc, ◌+◌, ◌<◌, ◌≤◌, Bool, true, false, cond, ◌==◌, List, [], ◌∷◌, ◌++◌, map, filter, refl, sym, ◌∙◌, ap, subst, arith, length, inl, inr, bytes_eq}
use Rattle.std.specs.List.{AllByRecursion, range_with_len}
use Rattle.std.proofs.lemmas.Bool.{and_from, and_parts, eq-eqb, eqb-true}
use Rattle.std.proofs.lemmas.List.{append-nil, length-map}
use Rattle.std.proofs.lemmas.List.Elements.{filter-append}
use Rattle.book_rows.specs.Kinds.{is_unpublished}
use Rattle.book_rows.specs.Lists.{In}
use Rattle.book_rows.specs.Sequences.{is_of_group, is_open, open_rows}
use Rattle.book_rows.specs.declared.rows.SequenceRow.{SequenceRow}
use Rattle.laws_locks.proofs.Lists.{all_weaker, filter_In, map_In, pair_of, pairs_filter}
use Rattle.laws_offsets.proofs.Lists.{same_text, text_same}
use Rattle.laws_sequences.specs.Links.{AreCounted}
use Rattle.laws_sequences.proofs.Chains.{Ascend}
use Rattle.laws_sequences.proofs.Filters.{filter_both, filter_map_kept}

-- ---- rows of a group

pub group_parts : (source : List ℕ) (group : ℕ) (u : SequenceRow) → is_of_group source group u ≡ true → (u.source ≡ source) × (u.group ≡ group)
group_parts source group u a =
    let both = and_parts (bytes_eq u.source source) (u.group == group) a in
    (same_text u.source source both.0, eqb-true u.group group both.1)

pub group_from : (source : List ℕ) (group : ℕ) (u : SequenceRow) → u.source ≡ source → u.group ≡ group → is_of_group source group u ≡ true
group_from source group u a b = and_from (bytes_eq u.source source) (u.group == group) (text_same u.source source a) (eq-eqb u.group group b)

pub open_parts : (source : List ℕ) (group : ℕ) (u : SequenceRow) → is_open source group u ≡ true → (is_of_group source group u ≡ true) × (is_unpublished u.state ≡ true)
open_parts source group u a = and_parts (is_of_group source group u) (is_unpublished u.state) a

abbrev pub group_rows : List ℕ → ℕ → List SequenceRow → List SequenceRow
group_rows source group us = filter (is_of_group source group) us

-- ---- what counting gives

indexes_ascend : (a : ℕ) (us : List SequenceRow) → map (λ u. u.index) us ≡ range_with_len a (length us) → AllByRecursion (λ u. a ≤ u.index) us × Ascend us
indexes_ascend a [] e = (tt, tt)
indexes_ascend a (u ∷ us) e =
    let first : u.index ≡ a = cc in
    let rest = indexes_ascend (a + 1) us cc in (
      (at_least u.index a first, all_weaker (λ (v : SequenceRow). a + 1 ≤ v.index) (λ v. a ≤ v.index) (λ v h. lower a v.index h) us rest.0),
      (all_weaker (λ (v : SequenceRow). a + 1 ≤ v.index) (λ v. u.index < v.index) (λ v h. above u.index a v.index first h) us rest.0, rest.1),
    ) where
      at_least : (i a : ℕ) → i ≡ a → a ≤ i
      at_least i a e = omega arith

      lower : (a i : ℕ) → a + 1 ≤ i → a ≤ i
      lower a i h = omega arith

      above : (i a j : ℕ) → i ≡ a → a + 1 ≤ j → i < j
      above i a j e h = omega arith

pub ascend_group : (source : List ℕ) (group : ℕ) (us : List SequenceRow) → AreCounted us → Ascend (group_rows source group us)
ascend_group source group us n = (indexes_ascend 0 (group_rows source group us) (n source group)).1

pub ascend_open : (source : List ℕ) (group : ℕ) (us : List SequenceRow) → AreCounted us → Ascend (open_rows source group us)
ascend_open source group us n =
    rw (filter_both (is_of_group source group) (λ u. is_unpublished u.state) us)
    (pairs_filter (λ u v. u.index < v.index) (λ u. is_unpublished u.state) (group_rows source group us) (ascend_group source group us n))

pub in_range : (n a m : ℕ) → In m (range_with_len a n) → m < a + n
in_range zero a m i = absurd i
in_range (suc n) a m (inl e) = first n a m e where
  first : (n a m : ℕ) → m ≡ a → m < a + suc n
  first n a m e = omega arith
in_range (suc n) a m (inr i) = later n a m (in_range n (a + 1) m i) where
  later : (n a m : ℕ) → m < (a + 1) + n → m < a + suc n
  later n a m h = omega arith

-- each index of a group is below the number of its rows
pub index_below : (us : List SequenceRow) (source : List ℕ) (group : ℕ) (u : SequenceRow) → AreCounted us → In u us → is_of_group source group u ≡ true → u.index < length (group_rows source group us)
index_below us source group u n i e =
    from_zero u.index (length (group_rows source group us)) (in_range (length (group_rows source group us)) 0 u.index
    (subst (λ (ns : List ℕ). In u.index ns) (n source group) (map_In (λ (v : SequenceRow). v.index) u (group_rows source group us) (filter_In (is_of_group source group) u us i e)))) where
      from_zero : (i n : ℕ) → i < 0 + n → i < n
      from_zero i n h = omega arith

-- two sequences of one group and index are one
pub one_sequence : (us : List SequenceRow) (u v : SequenceRow) → AreCounted us → In u us → In v us → is_of_group u.source u.group v ≡ true → v.index ≡ u.index → u ≡ v
one_sequence us u v n i j g e =
    let rows = group_rows u.source u.group us in
    let here = filter_In (is_of_group u.source u.group) u us i (group_from u.source u.group u refl refl) in
    let there = filter_In (is_of_group u.source u.group) v us j g in
    elim (pair_of (λ (x y : SequenceRow). x.index < y.index) u v rows (ascend_group u.source u.group us n) here there) [
      | inl same ↦ same
      | inr (inl less) ↦ absurd (never u.index v.index less e)
      | inr (inr more) ↦ absurd (never v.index u.index more (sym e))
    ] where
      never : (i j : ℕ) → i < j → j ≡ i → ⊥
      never i j h k = omega arith

-- ---- what keeps it

map_index : (f : SequenceRow → SequenceRow) → ((u : SequenceRow) → (f u).index ≡ u.index) → (us : List SequenceRow) → map (λ u. u.index) (map f us) ≡ map (λ u. u.index) us
map_index f x [] = refl
map_index f x (u ∷ us) = rw (x u, map_index f x us) refl

-- a change that leaves source, group and index
pub record KeepsKeys (f : SequenceRow → SequenceRow) : Type 0 where
  pub source_is : (u : SequenceRow) → (f u).source ≡ u.source
  pub group_is : (u : SequenceRow) → (f u).group ≡ u.group
  pub index_is : (u : SequenceRow) → (f u).index ≡ u.index

pub group_alike : (f : SequenceRow → SequenceRow) → KeepsKeys f → (source : List ℕ) (group : ℕ) (u : SequenceRow) → is_of_group source group (f u) ≡ is_of_group source group u
group_alike f k source group u = rw (k.source_is u, k.group_is u) refl

pub counted_map : (f : SequenceRow → SequenceRow) → KeepsKeys f → (us : List SequenceRow) → AreCounted us → AreCounted (map f us)
counted_map f k us n source group =
    rw (filter_map_kept (is_of_group source group) f (group_alike f k source group) us, length-map (group_rows source group us) f, map_index f k.index_is (group_rows source group us)) (n source group)

range_more : (a n m : ℕ) → m ≡ a + n → range_with_len a (suc n) ≡ range_with_len a n ++ m ∷ []
range_more a zero m e = let same : a ≡ m = omega arith in rw same refl
range_more a (suc n) m e = ap (λ (ns : List ℕ). a ∷ ns) (range_more (a + 1) n m (shift a n m e)) where
  shift : (a n m : ℕ) → m ≡ a + suc n → m ≡ (a + 1) + n
  shift a n m e = omega arith

pub length_more : {X : Type 0} (xs : List X) (y : X) → length (xs ++ y ∷ []) ≡ suc (length xs)
length_more [] y = refl
length_more (x ∷ xs) y = ap (λ n. suc n) (length_more xs y)

indexes_more : (us : List SequenceRow) (new : SequenceRow) → new.index ≡ length us → map (λ u. u.index) us ≡ range_with_len 0 (length us) → map (λ u. u.index) (us ++ new ∷ []) ≡ range_with_len 0 (length (us ++ new ∷ []))
indexes_more us new is e = pushed us ∙ rw (length_more us new, range_more 0 (length us) new.index (from_zero new.index (length us) is), e) refl where
  from_zero : (i n : ℕ) → i ≡ n → i ≡ 0 + n
  from_zero i n e = omega arith

  pushed : (us : List SequenceRow) → map (λ u. u.index) (us ++ new ∷ []) ≡ map (λ u. u.index) us ++ new.index ∷ []
  pushed [] = refl
  pushed (u ∷ us) = ap (λ (ns : List ℕ). u.index ∷ ns) (pushed us)

-- one more, with the next index of its group
pub counted_push : (us : List SequenceRow) (new : SequenceRow) → new.index ≡ length (group_rows new.source new.group us) → AreCounted us → AreCounted (us ++ new ∷ [])
counted_push us new is n source group = rw (filter-append (is_of_group source group) us (new ∷ [])) (go (is_of_group source group new) refl) where
  go : (b : Bool) → is_of_group source group new ≡ b
      → map (λ u. u.index) (group_rows source group us ++ cond b (new ∷ []) []) ≡ range_with_len 0 (length (group_rows source group us ++ cond b (new ∷ []) []))
  go true e =
      let here = group_parts source group new e in
      indexes_more (group_rows source group us) new (is ∙ rw (here.0, here.1) refl) (n source group)
  go false e = rw append-nil (n source group)
