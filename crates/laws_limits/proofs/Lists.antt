-- Tests of each element of a list that is made of others.
use Rattle.std.proofs.Common.{◌≡◌, ℕ, ◌+◌, ◌<◌, ◌≤◌, ◌∙◌, suc, Bool, true, List, [], ◌∷◌, ◌++◌, map, refl, arith, length}
use Rattle.std.specs.List.{list_all}
use Rattle.std.proofs.lemmas.Bool.{and_from, and_parts}
use Rattle.std.proofs.lemmas.List.Folds.{list_all-append, list_all-map}
use Rattle.book_rows.specs.Lists.{gathered, numbered}
use Rattle.laws_locks.proofs.Lists.{pass_weaker}

module _ {X : Type 0} where
  pub pass_append : (p : X → Bool) (xs ys : List X) → list_all p xs ≡ true → list_all p ys ≡ true → list_all p (xs ++ ys) ≡ true
  pass_append p xs ys a h = list_all-append p xs ys ∙ and_from (list_all p xs) (list_all p ys) a h

module _ {X Y : Type 0} where
  pub pass_over : (p : X → Bool) (q : Y → Bool) (f : X → Y) → ((x : X) → p x ≡ true → q (f x) ≡ true) → (xs : List X) → list_all p xs ≡ true → list_all q (map f xs) ≡ true
  pass_over p q f h xs a = list_all-map q f xs ∙ pass_weaker p (λ x. q (f x)) h xs a

  pub pass_all : (q : Y → Bool) (f : X → Y) → ((x : X) → q (f x) ≡ true) → (xs : List X) → list_all q (map f xs) ≡ true
  pass_all q f h [] = refl
  pass_all q f h (x ∷ xs) = and_from (q (f x)) (list_all q (map f xs)) (h x) (pass_all q f h xs)

  pub pass_gathered : (p : X → Bool) (q : Y → Bool) (f : X → List Y) → ((x : X) → p x ≡ true → list_all q (f x) ≡ true) → (xs : List X) → list_all p xs ≡ true → list_all q (gathered f xs) ≡ true
  pass_gathered p q f h [] a = refl
  pass_gathered p q f h (x ∷ xs) a =
      let both = and_parts (p x) (list_all p xs) a in
      pass_append q (f x) (gathered f xs) (h x both.0) (pass_gathered p q f h xs both.1)

  -- each has a number below the end
  pub pass_numbered : (p : X → Bool) (q : Y → Bool) (f : ℕ → X → Y) (from end : ℕ) → ((k : ℕ) (x : X) → k < end → p x ≡ true → q (f k x) ≡ true) → (xs : List X) → from + length xs ≤ end → list_all p xs ≡ true
      → list_all q (numbered f from xs) ≡ true
  pass_numbered p q f from end h [] few a = refl
  pass_numbered p q f from end h (x ∷ xs) few a =
      let both = and_parts (p x) (list_all p xs) a in
      and_from (q (f from x)) (list_all q (numbered f (from + 1) xs)) (h from x (below from (length xs) few) both.0) (pass_numbered p q f (from + 1) end h xs (less from (length xs) few) both.1) where
        below : (n m : ℕ) → n + suc m ≤ end → n < end
        below n m h = omega arith

        less : (n m : ℕ) → n + suc m ≤ end → (n + 1) + m ≤ end
        less n m h = omega arith
