-- Lists of rows after one edit, and what follows from clauses on a result.
use Rattle.std.proofs.Common.{◌++◌, ◌∷◌, ◌≡◌, Bool, Err, IsNone, List, None, Ok, OnErr, OnOk, Option, Result, Some, [], ap, arith, cond, false, filter, find, inl, inr, map, refl, slice_get, subst, suc, true, zero, ℕ}
use Rattle.std.specs.List.{AllByRecursion}
use Rattle.std.proofs.lemmas.Bool.{cases_Bool}
use Rattle.book_rows.specs.Lists.{Pairs}

module _ {X : Type 0} where
  pub all_map : (P Q : X → Type 0) (f : X → X) → ((x : X) → P x → Q (f x)) → (xs : List X) → AllByRecursion P xs → AllByRecursion Q (map f xs)
  all_map P Q f h [] a = tt
  all_map P Q f h (x ∷ xs) a = (h x a.0, all_map P Q f h xs a.1)

  pub all_weaker : (P Q : X → Type 0) → ((x : X) → P x → Q x) → (xs : List X) → AllByRecursion P xs → AllByRecursion Q xs
  all_weaker P Q h [] a = tt
  all_weaker P Q h (x ∷ xs) a = (h x a.0, all_weaker P Q h xs a.1)

  all_filter : (P : X → Type 0) (p : X → Bool) (xs : List X) → AllByRecursion P xs → AllByRecursion P (filter p xs)
  all_filter P p [] a = tt
  all_filter P p (x ∷ xs) a =
      elim (p x) as (λ b. AllByRecursion P (cond b (x ∷ filter p xs) (filter p xs)))
      [ true ↦ (a.0, all_filter P p xs a.1) | false ↦ all_filter P p xs a.1 ]

  pub all_push : (P : X → Type 0) (xs : List X) (y : X) → AllByRecursion P xs → P y → AllByRecursion P (xs ++ y ∷ [])
  all_push P [] y a h = (h, tt)
  all_push P (x ∷ xs) y a h = (a.0, all_push P xs y a.1 h)

  -- what holds of all holds of the one at a place
  pub all_get : (P : X → Type 0) (xs : List X) (n : ℕ) (x : X) → AllByRecursion P xs → slice_get xs n ≡ Some x → P x
  all_get P [] n x a got = cc
  all_get P (y ∷ ys) zero x a got = (let e : y ≡ x = cc in subst P e a.0)
  all_get P (y ∷ ys) (suc n) x a got = all_get P ys n x a.1 got

  pub all_from_find_none : (p : X → Bool) (xs : List X) → IsNone (find p xs) → AllByRecursion (λ x. p x ≡ false) xs
  all_from_find_none p [] h = tt
  all_from_find_none p (x ∷ xs) h = grind (arith, all_from_find_none p xs)

  pub pairs_map : (R S : X → X → Type 0) (f : X → X) → ((x y : X) → R x y → S (f x) (f y)) → (xs : List X) → Pairs R xs → Pairs S (map f xs)
  pairs_map R S f h [] a = tt
  pairs_map R S f h (x ∷ xs) a = (all_map (R x) (S (f x)) f (h x) xs a.0, pairs_map R S f h xs a.1)

  pub pairs_filter : (R : X → X → Type 0) (p : X → Bool) (xs : List X) → Pairs R xs → Pairs R (filter p xs)
  pairs_filter R p [] a = tt
  pairs_filter R p (x ∷ xs) a =
      elim (p x) as (λ b. Pairs R (cond b (x ∷ filter p xs) (filter p xs)))
      [ true ↦ (all_filter (R x) p xs a.0, pairs_filter R p xs a.1) | false ↦ pairs_filter R p xs a.1 ]

  pub pairs_push : (R : X → X → Type 0) (xs : List X) (y : X) → Pairs R xs → AllByRecursion (λ x. R x y) xs → Pairs R (xs ++ y ∷ [])
  pairs_push R [] y a h = (tt, tt)
  pairs_push R (x ∷ xs) y a h = (all_push (R x) xs y a.0 h.0, pairs_push R xs y a.1 h.1)

module _ {X Y : Type 0} (f : X → Y) where
  pub map_push : (xs : List X) (y : X) → map f (xs ++ y ∷ []) ≡ map f xs ++ f y ∷ []
  map_push [] y = refl
  map_push (x ∷ xs) y = ap (λ l. f x ∷ l) (map_push xs y)

  pub all_of_map : (P : Y → Type 0) (xs : List X) → AllByRecursion (λ x. P (f x)) xs → AllByRecursion P (map f xs)
  all_of_map P [] h = tt
  all_of_map P (x ∷ xs) h = (h.0, all_of_map P xs h.1)

  pub get_mapped : (xs : List X) (n : ℕ) (x : X) → slice_get xs n ≡ Some x → slice_get (map f xs) n ≡ Some (f x)
  get_mapped [] n x got = cc
  get_mapped (y ∷ ys) zero x got = (let e : y ≡ x = cc in rw e refl)
  get_mapped (y ∷ ys) (suc n) x got = get_mapped ys n x got

  pub none_mapped : (xs : List X) (n : ℕ) → slice_get xs n ≡ None → slice_get (map f xs) n ≡ None
  none_mapped [] zero got = refl
  none_mapped [] (suc n) got = refl
  none_mapped (y ∷ ys) zero got = cc
  none_mapped (y ∷ ys) (suc n) got = none_mapped ys n got

  -- the one at a place of what was made of a list
  pub get_unmapped : (xs : List X) (n : ℕ) (y : Y) → slice_get (map f xs) n ≡ Some y → (x : X) × (slice_get xs n ≡ Some x) × (f x ≡ y)
  get_unmapped [] n y got = cc
  get_unmapped (x ∷ xs) zero y got = (x, refl, (let e : f x ≡ y = cc in e))
  get_unmapped (x ∷ xs) (suc n) y got = get_unmapped xs n y got

pub either : {T E P Q C : Type 0} (r : Result T E) → OnOk r P → OnErr r Q → (P → C) → (Q → C) → C
either (Ok x) h k f g = f h
either (Err e) h k f g = g k
