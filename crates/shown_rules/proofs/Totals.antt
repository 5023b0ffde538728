-- Sums over lists and counts in them, also in another order.
use Rattle.std.proofs.Common.{Bool, List, [], ap, arith, cond, false, filter, get_or, inl, inr, length, refl, suc, sym, true, zero, ℕ, ◌+◌, ◌<◌, ◌≤◌, ◌∙◌, ◌∷◌, ◌≡◌, ◌⊎◌}
use Rattle.std.specs.List.{list_all, sum_by}
use Rattle.std.specs.List.Sorted.{IsPermutation}
use Rattle.std.proofs.lemmas.Bool.{false≢true}
use Rattle.std.proofs.lemmas.List.Sums.{sum_by-cons}
use Rattle.std.proofs.lemmas.List.Sorted.{Contains-permutation, IsPermutation-sym, sum_by-IsPermutation}
use Rattle.book_rows.specs.Lists.{In, count}
use Rattle.laws_chunks.proofs.Members.{all_pass, both_true, list_all_In}

-- the sum of a number of each element
abbrev pub total : {X : Type 0} → (X → ℕ) → List X → ℕ
total f [] = 0
total f (x ∷ xs) = f x + total f xs

-- so many times the number
abbrev pub times : ℕ → ℕ → ℕ
times zero v = 0
times (suc n) v = v + times n v

next : (n : ℕ) → 1 + n ≡ suc n
next n = omega arith

times_rises : (n v w : ℕ) → v ≤ w → times n v ≤ times n w
times_rises zero v w le = omega arith
times_rises (suc n) v w le = omega (arith, le, times_rises n v w le)

at_most : (v w : ℕ) → (v ≤ w) ⊎ (w ≤ v)
at_most zero w = inl (omega arith)
at_most (suc v) zero = inr (omega arith)
at_most (suc v) (suc w) = elim (at_most v w) [ inl le ↦ inl (omega (arith, le)) | inr le ↦ inr (omega (arith, le)) ]

pub times_tell : (n v w : ℕ) → times (suc n) v ≡ times (suc n) w → v ≡ w
times_tell n v w e = elim (at_most v w) [ inl le ↦ omega (arith, e, le, times_rises n v w le) | inr le ↦ omega (arith, e, le, times_rises n w v le) ]

module _ {X : Type 0} where
  pub total_same : (f g : X → ℕ) (xs : List X) → ((x : X) → In x xs → f x ≡ g x) → total f xs ≡ total g xs
  total_same f g [] h = refl
  total_same f g (x ∷ xs) h = rw (h x (inl refl), total_same f g xs (λ y i. h y (inr i))) refl

  pub total_none : (xs : List X) → total (λ x. 0) xs ≡ 0
  total_none [] = refl
  total_none (x ∷ xs) = omega (arith, total_none xs)

  pub total_both : (f g : X → ℕ) (xs : List X) → total (λ x. f x + g x) xs ≡ total f xs + total g xs
  total_both f g [] = omega arith
  total_both f g (x ∷ xs) = omega (arith, total_both f g xs)

  pub count_total : (p : X → Bool) (xs : List X) → count p xs ≡ total (λ x. cond (p x) 1 0) xs
  count_total p [] = refl
  count_total p (x ∷ xs) =
      elim (p x) as (λ b. cond b (1 + count p xs) (count p xs) ≡ cond b 1 0 + total (λ y. cond (p y) 1 0) xs)
      [ true ↦ omega (arith, count_total p xs) | false ↦ omega (arith, count_total p xs) ]

  pub total_filter : (q : X → Bool) (f : X → ℕ) (xs : List X) → total f (filter q xs) ≡ total (λ x. cond (q x) (f x) 0) xs
  total_filter q f [] = refl
  total_filter q f (x ∷ xs) =
      elim (q x) as (λ b. total f (cond b (x ∷ filter q xs) (filter q xs)) ≡ cond b (f x) 0 + total (λ y. cond (q y) (f y) 0) xs)
      [ true ↦ ap (λ n. f x + n) (total_filter q f xs) | false ↦ omega (arith, total_filter q f xs) ]

  -- ---- where each element that passes has the same number

  pub total_times : (q : X → Bool) (v : ℕ) (xs : List X) → total (λ x. cond (q x) v 0) xs ≡ times (count q xs) v
  total_times q v [] = refl
  total_times q v (x ∷ xs) =
      elim (q x) as (λ b. cond b v 0 + total (λ y. cond (q y) v 0) xs ≡ times (cond b (1 + count q xs) (count q xs)) v)
      [ true ↦ ap (λ n. v + n) (total_times q v xs) ∙ sym (ap (λ n. times n v) (next (count q xs))) | false ↦ omega (arith, total_times q v xs) ]

  pub count_some : (p : X → Bool) (x : X) (xs : List X) → In x xs → p x ≡ true → (n : ℕ) × (count p xs ≡ suc n)
  count_some p x [] i e = absurd i
  count_some p x (y ∷ ys) (inl same) e = (count p ys, passed (p y) (rw (← same) e)) where
    passed : (b : Bool) → b ≡ true → cond b (1 + count p ys) (count p ys) ≡ suc (count p ys)
    passed true h = next (count p ys)
    passed false h = absurd (false≢true h)
  count_some p x (y ∷ ys) (inr i) e =
      let w = count_some p x ys i e in
      elim (p y) as (λ b. (n : ℕ) × (cond b (1 + count p ys) (count p ys) ≡ suc n)) [ true ↦ (count p ys, next (count p ys)) | false ↦ w ]

  -- ---- in another order

  In_at : (xs : List X) (x : X) → In x xs → (k : ℕ) × (k < length xs) × (get_or xs k x ≡ x)
  In_at [] x i = absurd i
  In_at (y ∷ ys) x (inl e) = (0, omega arith, sym e)
  In_at (y ∷ ys) x (inr i) = let w = In_at ys x i in (suc w.0, omega (arith, w.1), w.2)

  at_In : (xs : List X) (x : X) (k : ℕ) → k < length xs → get_or xs k x ≡ x → In x xs
  at_In [] x k lt e = absurd (omega (arith, lt))
  at_In (y ∷ ys) x zero lt e = inl (sym e)
  at_In (y ∷ ys) x (suc k) lt e = inr (at_In ys x k (omega (arith, lt)) e)

  pub In_permuted : (xs ys : List X) (x : X) → IsPermutation xs ys → In x xs → In x ys
  In_permuted xs ys x p i = let w = Contains-permutation xs ys x p (In_at xs x i) in at_In ys x w.0 w.1 w.2

  pub all_permuted : (p : X → Bool) (xs ys : List X) → IsPermutation xs ys → list_all p xs ≡ list_all p ys
  all_permuted p xs ys moved = both_true (list_all p xs) (list_all p ys)
      (λ on. all_pass p ys (λ y i. list_all_In p y xs (In_permuted ys xs y (IsPermutation-sym xs ys moved) i) on))
      (λ on. all_pass p xs (λ x i. list_all_In p x ys (In_permuted xs ys x moved i) on))

  count_sum : (p : X → Bool) (xs : List X) → count p xs ≡ sum_by (λ x. cond (p x) 1 0) xs
  count_sum p [] = refl
  count_sum p (x ∷ xs) =
      elim (p x) as (λ b. cond b (1 + count p xs) (count p xs) ≡ cond b 1 0 + sum_by (λ y. cond (p y) 1 0) xs)
      [ true ↦ omega (arith, count_sum p xs) | false ↦ omega (arith, count_sum p xs) ]
      ∙ sym (sum_by-cons (λ y. cond (p y) 1 0) x xs)

  pub count_permuted : (p : X → Bool) (xs ys : List X) → IsPermutation xs ys → count p xs ≡ count p ys
  count_permuted p xs ys moved = count_sum p xs ∙ sym (sum_by-IsPermutation (λ x. cond (p x) 1 0) xs ys moved) ∙ sym (count_sum p ys)
