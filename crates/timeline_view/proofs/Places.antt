-- Members of lists: by place, of the first items, and of a list in another order.
use Rattle.std.proofs.Common.{List, [], ap, arith, get_or, inl, inr, length, refl, subst, suc, sym, take, zero, ℕ, ◌+◌, ◌<◌, ◌≤◌, ◌∷◌, ◌≡◌, ◌⊎◌}
use Rattle.std.specs.List.{slice_get}
use Rattle.std.specs.Prelude.{None, Some}
use Rattle.laws_parts.proofs.Unique.{none_not_some, some_same}
use Rattle.std.specs.List.Sorted.{IsPermutation}
use Rattle.std.proofs.lemmas.List.{take_more}
use Rattle.std.proofs.lemmas.List.Sorted.{Contains-permutation}
use Rattle.book_rows.specs.Lists.{In}
use Rattle.laws_chunks.proofs.Members.{In-append, In-left, In-right}

module _ {X : Type 0} where
  pub In_at : (xs : List X) (x : X) → In x xs → (k : ℕ) × (k < length xs) × (get_or xs k x ≡ x)
  In_at [] x i = absurd i
  In_at (y ∷ ys) x (inl e) = (0, omega arith, sym e)
  In_at (y ∷ ys) x (inr i) = let w = In_at ys x i in (suc w.0, omega (arith, w.1), w.2)

  pub at_In : (xs : List X) (x : X) (k : ℕ) → k < length xs → get_or xs k x ≡ x → In x xs
  at_In [] x k lt e = absurd (omega (arith, lt))
  at_In (y ∷ ys) x zero lt e = inl (sym e)
  at_In (y ∷ ys) x (suc k) lt e = inr (at_In ys x k (omega (arith, lt)) e)

  pub In_permuted : (xs ys : List X) (x : X) → IsPermutation xs ys → In x xs → In x ys
  In_permuted xs ys x p i = let w = Contains-permutation xs ys x p (In_at xs x i) in at_In ys x w.0 w.1 w.2

  pub In_take_more : (xs : List X) (x d : X) (i : ℕ) → i < length xs → In x (take (i + 1) xs) → In x (take i xs) ⊎ (x ≡ get_or xs i d)
  In_take_more xs x d i lt h = go (In-append x (take i xs) (get_or xs i d ∷ []) (subst (λ (ys : List X). In x ys) (take_more xs i d lt) h)) where
    go : In x (take i xs) ⊎ In x (get_or xs i d ∷ []) → In x (take i xs) ⊎ (x ≡ get_or xs i d)
    go (inl k) = inl k
    go (inr (inl e)) = inr e
    go (inr (inr k)) = absurd k

  pub In_take_later : (xs : List X) (x d : X) (i : ℕ) → i < length xs → In x (take i xs) → In x (take (i + 1) xs)
  In_take_later xs x d i lt h = subst (λ (ys : List X). In x ys) (sym (take_more xs i d lt)) (In-left x (take i xs) (get_or xs i d ∷ []) h)

  pub In_take_this : (xs : List X) (x d : X) (i : ℕ) → i < length xs → x ≡ get_or xs i d → In x (take (i + 1) xs)
  In_take_this xs x d i lt e = subst (λ (ys : List X). In x ys) (sym (take_more xs i d lt)) (In-right x (take i xs) (get_or xs i d ∷ []) (inl e))

  -- an item is among the first i, or at a later place
  pub In_take_or : (xs : List X) (x : X) (i : ℕ) → In x xs → In x (take i xs) ⊎ ((j : ℕ) × (i ≤ j) × (j < length xs) × (get_or xs j x ≡ x))
  In_take_or [] x i h = absurd h
  In_take_or (y ∷ ys) x zero h = let w = In_at (y ∷ ys) x h in inr (w.0, omega arith, w.1, w.2)
  In_take_or (y ∷ ys) x (suc i) (inl e) = inl (inl e)
  In_take_or (y ∷ ys) x (suc i) (inr h) = go (In_take_or ys x i h) where
    go : In x (take i ys) ⊎ ((j : ℕ) × (i ≤ j) × (j < length ys) × (get_or ys j x ≡ x)) → In x (y ∷ take i ys) ⊎ ((j : ℕ) × (suc i ≤ j) × (j < suc (length ys)) × (get_or (y ∷ ys) j x ≡ x))
    go (inl k) = inl (inr k)
    go (inr w) = inr (suc w.0, omega (arith, w.1), omega (arith, w.2), w.3)

  pub take_In : (xs : List X) (x : X) (i : ℕ) → In x (take i xs) → In x xs
  take_In xs x zero h = absurd h
  take_In [] x (suc i) h = absurd h
  take_In (y ∷ ys) x (suc i) (inl e) = inl e
  take_In (y ∷ ys) x (suc i) (inr h) = inr (take_In ys x i h)

  pub first_none : (xs : List X) → None ≡ slice_get xs 0 → length xs ≤ 0
  first_none [] h = omega arith
  first_none (x ∷ xs) h = absurd (none_not_some None x refl h)

  pub first_some : (xs : List X) (x : X) → Some x ≡ slice_get xs 0 → (0 < length xs) × (x ≡ get_or xs 0 x)
  first_some [] x h = absurd (none_not_some None x refl (sym h))
  first_some (y ∷ xs) x h = (omega arith, some_same x y h)

  pub at_this : (xs : List X) (x d : X) (i : ℕ) → i < length xs → x ≡ get_or xs i d → In x xs
  at_this xs x d i lt e = take_In xs x (i + 1) (In_take_this xs x d i lt e)

  -- what stands at a place
  pub got : (ys : List X) (k : ℕ) (y : X) → slice_get ys k ≡ Some y → (k < length ys) × (y ≡ get_or ys k y)
  got [] zero y h = absurd (none_not_some None y refl h)
  got [] (suc k) y h = absurd (none_not_some None y refl h)
  got (z ∷ ys) zero y h = (omega arith, sym (some_same z y h))
  got (z ∷ ys) (suc k) y h = let g = got ys k y h in (omega (arith, g.0), g.1)

  pub place_of : (ys : List X) (y : X) → In y ys → (s : ℕ) × (slice_get ys s ≡ Some y)
  place_of [] y k = absurd k
  place_of (z ∷ ys) y (inl e) = (0, ap Some (sym e))
  place_of (z ∷ ys) y (inr k) = let p = place_of ys y k in (suc p.0, p.1)

  pub got_In : (ys : List X) (k : ℕ) (y : X) → slice_get ys k ≡ Some y → In y ys
  got_In [] zero y h = absurd (none_not_some None y refl h)
  got_In [] (suc k) y h = absurd (none_not_some None y refl h)
  got_In (z ∷ ys) zero y h = inl (sym (some_same z y h))
  got_In (z ∷ ys) (suc k) y h = inr (got_In ys k y h)

  pub there : (ys : List X) (k : ℕ) (y : X) → k < length ys → y ≡ get_or ys k y → slice_get ys k ≡ Some y
  there [] k y lt e = absurd (omega (arith, lt))
  there (z ∷ ys) zero y lt e = ap Some (sym e)
  there (z ∷ ys) (suc k) y lt e = there ys k y (omega (arith, lt)) e

  pub not_there : (ys : List X) (k : ℕ) → length ys ≤ k → slice_get ys k ≡ None
  not_there [] zero h = refl
  not_there [] (suc k) h = refl
  not_there (z ∷ ys) zero h = absurd (omega (arith, h))
  not_there (z ∷ ys) (suc k) h = not_there ys k (omega (arith, h))
