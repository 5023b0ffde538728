-- What is found in turn, instant by instant, and by rank.
use Rattle.std.proofs.Common.{Bool, List, None, Option, Some, [], ap, arith, cond, false, filter, inl, inr, int_le, int_lt, map, not, refl, sym, true, ℕ, ℤ, ◌&&◌, ◌++◌, ◌+◌, ◌∙◌, ◌∷◌, ◌≡◌, ◌||◌, ◌⊎◌}
use Rattle.std.specs.List.{AllByRecursion, list_all}
use Rattle.std.specs.Ordering.{int_eq}
use Rattle.std.specs.List.Sorted.{IsPermutation}
use Rattle.std.proofs.lemmas.Bool.{and_parts, or_cases, or_right}
use Rattle.std.proofs.lemmas.Int.{ints}
use Rattle.seg_names.specs.Ids.{same_id}
use Rattle.seg_names.specs.declared.seg_id.SegId.{SegId}
use Rattle.book_rows.specs.Lists.{In, count}
use Rattle.laws_chunks.proofs.Members.{In-all, all_pass, count-append, count-filter, count_alike, count_map, count_none}
use Rattle.shown_rules.specs.Stages.{AreInOrder, Stage, ahead, closes, found, gives, is_open_by, left_by, put_at, stays, within}
use Rattle.shown_rules.proofs.Totals.{all_permuted, count_permuted, count_total, total, total_both, total_filter, total_none, total_same}

-- ---- at one instant

abbrev pub run_on : Option SegId → List SegId → List SegId
run_on None rest = []
run_on (Some a) rest = a ∷ rest

-- the roots that are put there while it is open
abbrev pub run_at : List ℕ × ℤ → List Stage → List SegId
run_at c [] = []
run_at c (x ∷ xs) = cond (within x c) (run_on x.root (run_at c xs)) (run_at c xs)

module _ (p : (List ℕ × ℤ) × SegId → Bool) where
  abbrev pub of_cut : List Stage → List ℕ × ℤ → ℕ
  of_cut xs c = count (λ a. p (c, a)) (run_at c xs)

  closed : (c : List ℕ × ℤ) (rest : List SegId) (b : Bool) → cond (not b) (count (λ a. p (c, a)) rest) 0 ≡ count (λ a. p (c, a)) (cond b [] rest)
  closed c rest true = refl
  closed c rest false = refl

  put : (c : List ℕ × ℤ) (a : SegId) (rest : List SegId) (b : Bool) → cond (b && p (c, a)) 1 0 + count (λ d. p (c, d)) rest ≡ count (λ d. p (c, d)) (cond b (a ∷ rest) rest)
  put c a rest true = elim (p (c, a)) as (λ b. cond b 1 0 + count (λ d. p (c, d)) rest ≡ cond b (1 + count (λ d. p (c, d)) rest) (count (λ d. p (c, d)) rest)) [ true ↦ omega arith | false ↦ omega arith ]
  put c a rest false = omega arith

  step : (x : Stage) (xs : List Stage) (cs : List (List ℕ × ℤ)) (o : Option SegId) → ((ds : List (List ℕ × ℤ)) → count p (found ds xs) ≡ total (of_cut xs) ds)
      → count p (put_at o (filter (within x) cs) ++ found (left_by o (within x) cs) xs) ≡ total (λ c. count (λ a. p (c, a)) (cond (within x c) (run_on o (run_at c xs)) (run_at c xs))) cs
  step x xs cs None rec =
      rec (filter (λ c. not (within x c)) cs)
      ∙ total_filter (λ c. not (within x c)) (of_cut xs) cs
      ∙ total_same (λ c. cond (not (within x c)) (of_cut xs c) 0) (λ c. count (λ a. p (c, a)) (cond (within x c) [] (run_at c xs))) cs (λ c i. closed c (run_at c xs) (within x c))
  step x xs cs (Some a) rec =
      sums ∙ total_same (λ c. cond (within x c && p (c, a)) 1 0 + of_cut xs c) (λ c. count (λ d. p (c, d)) (cond (within x c) (a ∷ run_at c xs) (run_at c xs))) cs (λ c i. put c a (run_at c xs) (within x c)) where
        first : count p (map (λ c. (c, a)) (filter (within x) cs)) ≡ total (λ c. cond (within x c && p (c, a)) 1 0) cs
        first = count_map p (λ c. (c, a)) (filter (within x) cs) ∙ count-filter (λ c. p (c, a)) (within x) cs ∙ count_total (λ c. within x c && p (c, a)) cs

        sums : count p (map (λ c. (c, a)) (filter (within x) cs) ++ found cs xs) ≡ total (λ c. cond (within x c && p (c, a)) 1 0 + of_cut xs c) cs
        sums =
            count-append p (map (λ c. (c, a)) (filter (within x) cs)) (found cs xs)
            ∙ (rw (first, rec cs) refl ∙ sym (total_both (λ c. cond (within x c && p (c, a)) 1 0) (of_cut xs) cs))

  -- what is found is what is put at each instant
  pub found_counts : (xs : List Stage) (cs : List (List ℕ × ℤ)) → count p (found cs xs) ≡ total (of_cut xs) cs
  found_counts [] cs = sym (total_none cs)
  found_counts (x ∷ xs) cs = step x xs cs x.root (λ ds. found_counts xs ds)

-- ---- in order

below : (m n : ℤ) → int_lt m n ≡ true → int_le m n ≡ true
below m n h = grind (arith, ints)

level : (m n : ℤ) → int_eq m n ≡ true → int_le m n ≡ true
level m n h = grind (arith, ints)

rises : (m n : ℤ) (b : Bool) → (int_lt m n || (int_eq m n && b)) ≡ true → int_le m n ≡ true
rises m n b h = by (or_cases (int_lt m n) (int_eq m n && b) h) where
  by : (int_lt m n ≡ true) ⊎ ((int_eq m n && b) ≡ true) → int_le m n ≡ true
  by (inl less) = below m n less
  by (inr same) = level m n (and_parts (int_eq m n) b same).0

sinks : (m n : ℤ) → (int_lt m n || (int_eq m n && false)) ≡ true → int_le n m ≡ false
sinks m n h = grind (arith, ints)

module _ (c : List ℕ × ℤ) (a : SegId) where
  -- counted where it is put at the instant, and neither the one before nor the later ones close it
  abbrev counts : Stage → Option SegId → Bool → List Stage → Stage → Bool
  counts x o b xs z = gives a z.root && (within z c && ((not (closes o && b) || int_le z.rank x.rank) && list_all (is_open_by z.rank c) xs))

  abbrev own : Stage → Option SegId → Bool → List Stage → Bool
  own x o b xs = gives a o && (b && ((not (closes o && b) || int_le x.rank x.rank) && list_all (is_open_by x.rank c) xs))

  after : (q : Bool) (h g : Bool) → h ≡ false → (q && (g && (h && true))) ≡ false
  after true h true e = rw e refl
  after true h false e = refl
  after false h g e = refl

  none_left : (x : Stage) (xs : List Stage) → x.root ≡ None → AllByRecursion (λ y. ahead x y ≡ true) xs → (z : Stage) → In z xs → counts x None true xs z ≡ false
  none_left x xs closed order z i = by z.root (In-all (λ y. ahead x y ≡ true) z xs i order) where
    by : (o : Option SegId) → (int_lt x.rank z.rank || (int_eq x.rank z.rank && (not (closes x.root) || closes o))) ≡ true
        → (gives a o && (within z c && (int_le z.rank x.rank && list_all (is_open_by z.rank c) xs))) ≡ false
    by None h = refl
    by (Some d) h = low (same_id d a) (within z c) (int_le z.rank x.rank) (list_all (is_open_by z.rank c) xs) (sinks x.rank z.rank (rw closed at h)) where
      low : (s w l r : Bool) → l ≡ false → (s && (w && (l && r))) ≡ false
      low true true l r e = rw e refl
      low true false l r e = refl
      low false w l r e = refl

  all_open : (x : Stage) (xs : List Stage) → AllByRecursion (λ y. ahead x y ≡ true) xs → list_all (is_open_by x.rank c) xs ≡ true
  all_open x xs order = all_pass (is_open_by x.rank c) xs
      (λ y i. or_right (not (closes y.root && within y c)) (int_le x.rank y.rank) (rises x.rank y.rank (not (closes x.root) || closes y.root) (In-all (λ z. ahead x z ≡ true) y xs i order)))

  apart : (s r : Bool) → (s && (false && r)) ≡ false
  apart true r = refl
  apart false r = refl

  kept : (s r : Bool) → r ≡ true → (s && (true && (true && r))) ≡ s
  kept true r e = e
  kept false r e = refl

  one : (x : Stage) (xs : List Stage) (rest : List SegId) → AllByRecursion (λ y. ahead x y ≡ true) xs
      → count (λ d. same_id d a) rest ≡ count (λ z. gives a z.root && (within z c && list_all (is_open_by z.rank c) xs)) xs
      → (o : Option SegId) (b : Bool) → x.root ≡ o
      → count (λ d. same_id d a) (cond b (run_on o rest) rest) ≡ cond (own x o b xs) (1 + count (counts x o b xs) xs) (count (counts x o b xs) xs)
  one x xs rest order rec None true e = sym (count_none (counts x None true xs) xs (none_left x xs e order))
  one x xs rest order rec None false e = rec
  one x xs rest order rec (Some d) true e = rw (rec, kept (same_id d a) (list_all (is_open_by x.rank c) xs) (all_open x xs order)) refl
  one x xs rest order rec (Some d) false e = rw (apart (same_id d a) (list_all (is_open_by x.rank c) xs)) rec

  -- in order, what is put while an instant is open is what no lower rank closes
  pub run_stays : (xs : List Stage) → AreInOrder xs → count (λ d. same_id d a) (run_at c xs) ≡ stays xs c a
  run_stays [] order = refl
  run_stays (x ∷ xs) order = one x xs (run_at c xs) order.0 (run_stays xs order.1) x.root (within x c) refl

-- it stays so in another order
pub stays_permuted : (xs ys : List Stage) (c : List ℕ × ℤ) (a : SegId) → IsPermutation xs ys → stays xs c a ≡ stays ys c a
stays_permuted xs ys c a moved =
    count_alike (λ x. gives a x.root && (within x c && list_all (is_open_by x.rank c) xs)) (λ x. gives a x.root && (within x c && list_all (is_open_by x.rank c) ys)) xs
    (λ x i. ap (λ (b : Bool). gives a x.root && (within x c && b)) (all_permuted (is_open_by x.rank c) xs ys moved))
    ∙ count_permuted (λ x. gives a x.root && (within x c && list_all (is_open_by x.rank c) ys)) xs ys moved
