-- Tests that all elements pass: of what is found among them, and of lists that are put in order.
use Rattle.std.proofs.Common.{◌≡◌, ◌∷◌, Bool, List, None, Option, Some, [], cond, false, find, int_lt, refl, true, ℤ}
use Rattle.std.specs.List.{list_all}
use Rattle.std.specs.Ordering.{int_eq}
use Rattle.std.specs.declared.cmp.Ordering.{Ordering}
use Rattle.std.specs.declared.cmp.Ordering.TheVariants as Orderings
use Rattle.std.proofs.lemmas.Bool.{and_from, and_parts}
use Rattle.seg_names.specs.Ids.{id_cmp}
use Rattle.seg_names.specs.declared.seg_id.SegId.{SegId}
use Rattle.book_rows.specs.Ids.{in_order, put_by, put_id}
use Rattle.book_rows.specs.Lists.{or_else}
use Rattle.book_rows.specs.Spans.{put_cut}

-- ---- options

-- the value, if there is one, passes
abbrev pub passes_if_some : {X : Type 0} → (X → Bool) → Option X → Bool
passes_if_some p None = true
passes_if_some p (Some x) = p x

module _ {X : Type 0} where
  pub found_passes : (p q : X → Bool) (xs : List X) → list_all p xs ≡ true → passes_if_some p (find q xs) ≡ true
  found_passes p q [] h = refl
  found_passes p q (x ∷ xs) h =
      let both = and_parts (p x) (list_all p xs) h in
      elim (q x) as (λ b. passes_if_some p (cond b (Some x) (find q xs)) ≡ true) [ true ↦ both.0 | false ↦ found_passes p q xs both.1 ]

  pub either_passes : (p : X → Bool) (o rest : Option X) → passes_if_some p o ≡ true → passes_if_some p rest ≡ true → passes_if_some p (or_else o rest) ≡ true
  either_passes p (Some x) rest h k = h
  either_passes p None rest h k = k

-- ---- ids in order

put_by_passes : (p : SegId → Bool) (o : Ordering) (a b : SegId) (bs rest : List SegId) → p a ≡ true → list_all p (b ∷ bs) ≡ true → list_all p rest ≡ true → list_all p (put_by o a b bs rest) ≡ true
put_by_passes p Orderings.Less a b bs rest h all more = and_from (p a) (list_all p (b ∷ bs)) h all
put_by_passes p Orderings.Equal a b bs rest h all more = all
put_by_passes p Orderings.Greater a b bs rest h all more = and_from (p b) (list_all p rest) (and_parts (p b) (list_all p bs) all).0 more

put_passes : (p : SegId → Bool) (a : SegId) (bs : List SegId) → p a ≡ true → list_all p bs ≡ true → list_all p (put_id a bs) ≡ true
put_passes p a [] h all = and_from (p a) true h refl
put_passes p a (b ∷ bs) h all = put_by_passes p (id_cmp a b) a b bs (put_id a bs) h all (put_passes p a bs h (and_parts (p b) (list_all p bs) all).1)

pub in_order_passes : (p : SegId → Bool) (ids : List SegId) → list_all p ids ≡ true → list_all p (in_order ids) ≡ true
in_order_passes p [] h = refl
in_order_passes p (a ∷ ids) h = let both = and_parts (p a) (list_all p ids) h in put_passes p a (in_order ids) both.0 (in_order_passes p ids both.1)

-- ---- instants in order

pub cut_passes : (p : ℤ → Bool) (t : ℤ) (us : List ℤ) → p t ≡ true → list_all p us ≡ true → list_all p (put_cut t us) ≡ true
cut_passes p t [] h all = and_from (p t) true h refl
cut_passes p t (u ∷ us) h all = go (int_lt t u) (int_eq t u) both.0 (cut_passes p t us h both.1) where
  both : (p u ≡ true) × (list_all p us ≡ true)
  both = and_parts (p u) (list_all p us) all

  go : (less same : Bool) → p u ≡ true → list_all p (put_cut t us) ≡ true → list_all p (cond less (t ∷ u ∷ us) (cond same (u ∷ us) (u ∷ put_cut t us))) ≡ true
  go true same here rest = and_from (p t) (list_all p (u ∷ us)) h all
  go false true here rest = all
  go false false here rest = and_from (p u) (list_all p (put_cut t us)) here rest
