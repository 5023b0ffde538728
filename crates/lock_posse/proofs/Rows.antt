-- What stays true of a list after one edit.
use Rattle.std.proofs.Common.{◌≡◌, ℕ, zero, suc, ◌<◌, Bool, true, false, cond, List, [], ◌∷◌, ◌++◌, map, filter, find, get_or, length, arith, IsNone}
use Rattle.std.specs.List.{AllByRecursion}
use Rattle.book_rows.specs.Lists.{Pairs}

module _ {X : Type 0} where
  pub all_map : (P Q : X → Type 0) (f : X → X) → ((x : X) → P x → Q (f x)) → (xs : List X) → AllByRecursion P xs → AllByRecursion Q (map f xs)
  all_map P Q f h [] a = tt
  all_map P Q f h (x ∷ xs) a = (h x a.0, all_map P Q f h xs a.1)

  pub all_weaker : (P Q : X → Type 0) → ((x : X) → P x → Q x) → (xs : List X) → AllByRecursion P xs → AllByRecursion Q xs
  all_weaker P Q h [] a = tt
  all_weaker P Q h (x ∷ xs) a = (h x a.0, all_weaker P Q h xs a.1)

  pub all_filter : (P : X → Type 0) (p : X → Bool) (xs : List X) → AllByRecursion P xs → AllByRecursion P (filter p xs)
  all_filter P p [] a = tt
  all_filter P p (x ∷ xs) a =
      elim (p x) as (λ b. AllByRecursion P (cond b (x ∷ filter p xs) (filter p xs)))
      [ true ↦ (a.0, all_filter P p xs a.1) | false ↦ all_filter P p xs a.1 ]

  pub all_push : (P : X → Type 0) (xs : List X) (y : X) → AllByRecursion P xs → P y → AllByRecursion P (xs ++ y ∷ [])
  all_push P [] y a h = (h, tt)
  all_push P (x ∷ xs) y a h = (a.0, all_push P xs y a.1 h)

  pub all_append : (P : X → Type 0) (xs ys : List X) → AllByRecursion P xs → AllByRecursion P ys → AllByRecursion P (xs ++ ys)
  all_append P [] ys a b = b
  all_append P (x ∷ xs) ys a b = (a.0, all_append P xs ys a.1 b)

  pub all_at : (P : X → Type 0) (xs : List X) (i : ℕ) (d : X) → AllByRecursion P xs → i < length xs → P (get_or xs i d)
  all_at P [] i d a lt = absurd (omega arith)
  all_at P (x ∷ xs) zero d a lt = a.0
  all_at P (x ∷ xs) (suc i) d a lt = all_at P xs i d a.1 (omega arith)

  pub all_by_place : (P : X → Type 0) (xs : List X) → ((j : ℕ) (d : X) → j < length xs → P (get_or xs j d)) → AllByRecursion P xs
  all_by_place P [] h = tt
  all_by_place P (x ∷ xs) h = (h 0 x (omega arith), all_by_place P xs (λ j d lt. h (suc j) d (omega arith)))

  -- where the look-up finds nothing, each fails
  pub all_from_find_none : (p : X → Bool) (xs : List X) → IsNone (find p xs) → AllByRecursion (λ x. p x ≡ false) xs
  all_from_find_none p [] h = tt
  all_from_find_none p (x ∷ xs) h = grind (arith, all_from_find_none p xs)

  pub pairs_map : (R S : X → X → Type 0) (f : X → X) → ((x y : X) → R x y → S (f x) (f y)) → (xs : List X) → Pairs R xs → Pairs S (map f xs)
  pairs_map R S f h [] a = tt
  pairs_map R S f h (x ∷ xs) a = (all_map (R x) (S (f x)) f (h x) xs a.0, pairs_map R S f h xs a.1)

  pub pairs_filter : (R : X → X → Type 0) (p : X → Bool) (xs : List X) → Pairs R xs → Pairs R (filter p xs)
  pairs_filter R p [] a = tt
  pairs_filter R p (x ∷ xs) a =
      elim (p x) as (λ b. Pairs R (cond b (x ∷ filter p xs) (filter p xs)))
      [ true ↦ (all_filter (R x) p xs a.0, pairs_filter R p xs a.1) | false ↦ pairs_filter R p xs a.1 ]

  pub pairs_push : (R : X → X → Type 0) (xs : List X) (y : X) → Pairs R xs → AllByRecursion (λ x. R x y) xs → Pairs R (xs ++ y ∷ [])
  pairs_push R [] y a h = (tt, tt)
  pairs_push R (x ∷ xs) y a h = (all_push (R x) xs y a.0 h.0, pairs_push R xs y a.1 h.1)

  pub pairs_append : (R : X → X → Type 0) (xs ys : List X) → Pairs R xs → Pairs R ys → AllByRecursion (λ x. AllByRecursion (R x) ys) xs → Pairs R (xs ++ ys)
  pairs_append R [] ys a b h = b
  pairs_append R (x ∷ xs) ys a b h = (all_append (R x) xs ys a.0 h.0, pairs_append R xs ys a.1 b h.1)

pub all_of_map : {X Y : Type 0} (P : Y → Type 0) (f : X → Y) (xs : List X) → AllByRecursion (λ x. P (f x)) xs → AllByRecursion P (map f xs)
all_of_map P f [] h = tt
all_of_map P f (x ∷ xs) h = (h.0, all_of_map P f xs h.1)
