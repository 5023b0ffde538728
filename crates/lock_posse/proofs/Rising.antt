-- Numbers have one ascending order.
use Rattle.std.proofs.Common.{◌≡◌, ℕ, suc, ◌+◌, ◌<◌, ◌≤◌, Bool, true, false, cond, ◌==◌, nat_le, List, [], ◌∷◌, refl, sym, ap, subst, ◌∙◌, arith, inl, inr}
use Rattle.std.specs.List.{AllByRecursion, sum_by}
use Rattle.std.specs.List.Sorted.{IsPermutation, IsNonDecreasingBy}
use Rattle.std.proofs.lemmas.Bool.{cases_Bool, cases_order, cond-true, eq-eqb, ne_eqb, leb-true, leb-false}
use Rattle.std.proofs.lemmas.List.Sorted.{sum_by-IsPermutation}
use Rattle.std.proofs.lemmas.List.Sums.{sum_by-cons}
use Rattle.book_rows.specs.Lists.{ascending, count, inserted}
use Rattle.lock_posse.proofs.Rows.{all_by_place, all_weaker}

-- no number stands before a smaller one
abbrev pub IsRising : List ℕ → Type 0
IsRising [] = Unit {0}
IsRising (x ∷ xs) = AllByRecursion (λ y. x ≤ y) xs × IsRising xs

rising_by_place : (xs : List ℕ) → IsNonDecreasingBy (λ x. x) xs → IsRising xs
rising_by_place [] h = tt
rising_by_place (x ∷ xs) h = (
  all_by_place (λ y. x ≤ y) xs (λ j d lt. h 0 (suc j) d (omega arith) (omega arith)),
  rising_by_place xs (λ i j d le lt. h (suc i) (suc j) d (omega arith) (omega arith)),
)

all_inserted : (P : ℕ → Type 0) (n : ℕ) (ms : List ℕ) → P n → AllByRecursion P ms → AllByRecursion P (inserted n ms)
all_inserted P n [] h a = (h, tt)
all_inserted P n (m ∷ ms) h a =
    elim (nat_le n m) as (λ b. AllByRecursion P (cond b (n ∷ m ∷ ms) (m ∷ inserted n ms)))
    [ true ↦ (h, a) | false ↦ (a.0, all_inserted P n ms h a.1) ]

rising_inserted : (n : ℕ) (ms : List ℕ) → IsRising ms → IsRising (inserted n ms)
rising_inserted n [] h = (tt, tt)
rising_inserted n (m ∷ ms) h =
    elim (cases_Bool (nat_le n m)) [
      | inl on ↦
          let low : n ≤ m = leb-true n m on in
          rw on ((low, all_weaker (λ y. m ≤ y) (λ y. n ≤ y) (λ y le. omega arith) ms h.0), h)
      | inr off ↦
          let low : m < n = leb-false n m off in
          rw off (all_inserted (λ y. m ≤ y) n ms (omega arith) h.0, rising_inserted n ms h.1)
    ]

rising_ascending : (ns : List ℕ) → IsRising (ascending ns)
rising_ascending [] = tt
rising_ascending (n ∷ ns) = rising_inserted n (ascending ns) (rising_ascending ns)

-- ---- how often a number stands in a list

count_swapped : (a b : Bool) (c : ℕ) → cond b (1 + cond a (1 + c) c) (cond a (1 + c) c) ≡ cond a (1 + cond b (1 + c) c) (cond b (1 + c) c)
count_swapped true true c = refl
count_swapped true false c = refl
count_swapped false true c = refl
count_swapped false false c = refl

count_inserted : (q : ℕ → Bool) (n : ℕ) (ms : List ℕ) → count q (inserted n ms) ≡ count q (n ∷ ms)
count_inserted q n [] = refl
count_inserted q n (m ∷ ms) =
    elim (nat_le n m) as (λ b. count q (cond b (n ∷ m ∷ ms) (m ∷ inserted n ms)) ≡ count q (n ∷ m ∷ ms))
    [ true ↦ refl | false ↦ ap (λ c. cond (q m) (1 + c) c) (count_inserted q n ms) ∙ count_swapped (q n) (q m) (count q ms) ]

count_ascending : (q : ℕ → Bool) (ns : List ℕ) → count q (ascending ns) ≡ count q ns
count_ascending q [] = refl
count_ascending q (n ∷ ns) = count_inserted q n (ascending ns) ∙ ap (λ c. cond (q n) (1 + c) c) (count_ascending q ns)

count_bit : (b : Bool) (c : ℕ) → cond b (1 + c) c ≡ cond b 1 0 + c
count_bit true c = refl
count_bit false c = omega arith

count_is : (q : ℕ → Bool) (ns : List ℕ) → count q ns ≡ sum_by (λ n. cond (q n) 1 0) ns
count_is q [] = refl
count_is q (n ∷ ns) =
    count_bit (q n) (count q ns) ∙ (ap (λ c. cond (q n) 1 0 + c) (count_is q ns) ∙ sym (sum_by-cons (λ n. cond (q n) 1 0) n ns))

count_permuted : (q : ℕ → Bool) (ns ms : List ℕ) → IsPermutation ns ms → count q ms ≡ count q ns
count_permuted q ns ms h = count_is q ms ∙ (sum_by-IsPermutation (λ n. cond (q n) 1 0) ns ms h ∙ sym (count_is q ns))

-- ---- two ascending lists of the same numbers

none_below : (n x : ℕ) (ys : List ℕ) → n < x → AllByRecursion (λ y. x ≤ y) ys → count (λ m. m == n) ys ≡ 0
none_below n x [] lt a = refl
none_below n x (y ∷ ys) lt a =
    let le : x ≤ y = a.0 in
    rw (ne_eqb y n (λ e. omega arith)) (none_below n x ys lt a.1)

first_counts : (x : ℕ) (xs : List ℕ) → count (λ m. m == x) (x ∷ xs) ≡ 1 + count (λ m. m == x) xs
first_counts x xs = cond-true (x == x) (1 + count (λ m. m == x) xs) (count (λ m. m == x) xs) (eq-eqb x x refl)

count_rest : (b : Bool) (i j : ℕ) → cond b (1 + i) i ≡ cond b (1 + j) j → i ≡ j
count_rest true i j e = omega arith
count_rest false i j e = e

not_missing : (x y : ℕ) (xs ys : List ℕ) → x < y → AllByRecursion (λ z. y ≤ z) ys → count (λ m. m == x) (x ∷ xs) ≡ count (λ m. m == x) (y ∷ ys) → ⊥
not_missing x y xs ys lt a e =
    let some = first_counts x xs in
    let none : count (λ m. m == x) (y ∷ ys) ≡ 0 = none_below x y (y ∷ ys) lt (omega arith, a) in
    omega arith

same_rising : (xs ys : List ℕ) → IsRising xs → IsRising ys → ((n : ℕ) → count (λ m. m == n) xs ≡ count (λ m. m == n) ys) → xs ≡ ys
same_rising [] [] a b h = refl
same_rising [] (y ∷ ys) a b h =
    let some = first_counts y ys in
    let e = h y in
    absurd (omega arith)
same_rising (x ∷ xs) [] a b h =
    let some = first_counts x xs in
    let e = h x in
    absurd (omega arith)
same_rising (x ∷ xs) (y ∷ ys) a b h =
    elim (cases_order x y) [
      | inl e ↦
          let h' : (n : ℕ) → count (λ m. m == n) (x ∷ xs) ≡ count (λ m. m == n) (x ∷ ys) = λ n. subst (λ z. count (λ m. m == n) (x ∷ xs) ≡ count (λ m. m == n) (z ∷ ys)) (sym e) (h n) in
          rw (← e) (ap (λ zs. x ∷ zs) (same_rising xs ys a.1 b.1 (λ n. count_rest (x == n) _ _ (h' n))))
      | inr apart ↦
          elim apart [ inl lt ↦ absurd (not_missing x y xs ys lt b.0 (h x)) | inr gt ↦ absurd (not_missing y x ys xs gt a.0 (sym (h y))) ]
    ]

-- what a sort makes of the numbers
pub sorted_is_ascending : (xs ys : List ℕ) → IsPermutation xs ys → IsNonDecreasingBy (λ x. x) ys → ys ≡ ascending xs
sorted_is_ascending xs ys h up =
    same_rising ys (ascending xs) (rising_by_place ys up) (rising_ascending xs) (λ n. count_permuted (λ m. m == n) xs ys h ∙ sym (count_ascending (λ m. m == n) xs))
