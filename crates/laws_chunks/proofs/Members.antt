-- Members of lists, pairs of members, and counts: those of laws_locks passed on, and more counts.
use Rattle.std.proofs.Common.{Bool, List, [], ap, arith, cond, false, filter, map, refl, true, ◌&&◌, ◌++◌, ◌+◌, ◌∙◌, ◌∷◌, ◌≡◌, inl, inr}
use Rattle.book_rows.specs.Lists.{In, count}
pub use Rattle.laws_locks.proofs.Lists.{In-all, In-append, In-filter, In-left, In-list_all as list_all_In, In-map, In-right, all_filter, all_from_In, all_map, all_pass, all_push, any_In, any_from_In, both_true, count_none, filter_In, filter_cases, map_In, none_In, none_from_In, pair_of, pairs_append, pairs_between, pairs_filter, pairs_left, pairs_map, pairs_push, pairs_right}

module _ {X : Type 0} where
  pub count_alike : (p q : X → Bool) (xs : List X) → ((x : X) → In x xs → p x ≡ q x) → count p xs ≡ count q xs
  count_alike p q [] h = refl
  count_alike p q (x ∷ xs) h = rw (h x (inl refl), count_alike p q xs (λ y i. h y (inr i)))

  pub count-append : (p : X → Bool) (xs ys : List X) → count p (xs ++ ys) ≡ count p xs + count p ys
  count-append p [] ys = omega arith
  count-append p (x ∷ xs) ys = elim (p x) as (λ b. cond b (1 + count p (xs ++ ys)) (count p (xs ++ ys)) ≡ cond b (1 + count p xs) (count p xs) + count p ys)
      [ true ↦ omega (arith, count-append p xs ys) | false ↦ count-append p xs ys ]

  pub count_map : {Y : Type 0} (p : X → Bool) (f : Y → X) (ys : List Y) → count p (map f ys) ≡ count (λ y. p (f y)) ys
  count_map p f [] = refl
  count_map p f (y ∷ ys) = rw (count_map p f ys) refl

  pub count-filter : (p q : X → Bool) (xs : List X) → count p (filter q xs) ≡ count (λ x. q x && p x) xs
  count-filter p q [] = refl
  count-filter p q (x ∷ xs) =
      elim (q x) as (λ b. count p (cond b (x ∷ filter q xs) (filter q xs)) ≡ cond (b && p x) (1 + count (λ y. q y && p y) xs) (count (λ y. q y && p y) xs))
      [ true ↦ ap (λ n. cond (p x) (1 + n) n) (count-filter p q xs) | false ↦ count-filter p q xs ]

  -- what the test lets through is counted as before
  pub count_kept : (p q : X → Bool) (xs : List X) → ((x : X) → In x xs → p x ≡ true → q x ≡ true) → count p (filter q xs) ≡ count p xs
  count_kept p q xs h = count-filter p q xs ∙ count_alike (λ x. q x && p x) p xs (λ x i. drops (q x) (p x) (h x i)) where
    drops : (a b : Bool) → (b ≡ true → a ≡ true) → (a && b) ≡ b
    drops true b f = refl
    drops false true f = f refl
    drops false false f = refl
