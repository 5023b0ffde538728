-- The parts of the ids of a span, where they are all numbers below some number: each once.
use Rattle.std.proofs.Common.{Bool, List, [], ap, arith, cond, false, filter, inl, inr, map, nat_le, refl, subst, suc, sym, true, zero, ℕ, ◌+◌, ◌<◌, ◌==◌, ◌∙◌, ◌∷◌, ◌≡◌, ◌≤◌}
use Rattle.std.proofs.lemmas.Bool.{cases_Bool}
use Rattle.std.proofs.lemmas.Bool.Decides.{Decides-eqb}
use Rattle.std.specs.List.{range_with_len}
use Rattle.iv_span.specs.Extent.{Extent}
use Rattle.seg_names.specs.Ids.{same_id}
use Rattle.seg_names.specs.declared.seg_id.SegId.{SegId}
use Rattle.book_rows.specs.Ids.{is_of_span}
use Rattle.book_rows.specs.Lists.{In, ascending, count, inserted, merged}
use Rattle.book_rows.specs.Over.{parts_of}
use Rattle.laws_chunks.proofs.Meanings.{count_pos, count_some}
use Rattle.laws_chunks.proofs.Members.{count_map, count_none}
use Rattle.laws_chunks.proofs.OnceAdded.{count_le}
use Rattle.laws_chunks.proofs.Spans.{same_id_means}

-- ---- sorting changes no count

count_inserted : (p : ℕ → Bool) (n : ℕ) (ms : List ℕ) → count p (inserted n ms) ≡ count p (n ∷ ms)
count_inserted p n [] = refl
count_inserted p n (m ∷ ms) = step (nat_le n m) (count_inserted p n ms) where
  swapped : (b c : Bool) (k : ℕ) → cond c (1 + cond b (1 + k) k) (cond b (1 + k) k) ≡ cond b (1 + cond c (1 + k) k) (cond c (1 + k) k)
  swapped true true k = refl
  swapped true false k = refl
  swapped false true k = refl
  swapped false false k = refl

  step : (b : Bool) → count p (inserted n ms) ≡ count p (n ∷ ms) → count p (cond b (n ∷ m ∷ ms) (m ∷ inserted n ms)) ≡ count p (n ∷ m ∷ ms)
  step true e = refl
  step false e = ap (λ k. cond (p m) (1 + k) k) e ∙ swapped (p n) (p m) (count p ms)

count_ascending : (p : ℕ → Bool) (ns : List ℕ) → count p (ascending ns) ≡ count p ns
count_ascending p [] = refl
count_ascending p (n ∷ ns) = count_inserted p n (merged ns []) ∙ ap (λ k. cond (p n) (1 + k) k) (count_ascending p ns)

-- ---- numbers of a range

pub range_within : (x a n : ℕ) → In x (range_with_len a n) → (a ≤ x) × (x < a + n)
range_within x a zero i = absurd i
range_within x a (suc n) (inl e) = (omega (arith, e), omega (arith, e))
range_within x a (suc n) (inr i) = let w = range_within x (a + 1) n i in let low = w.0 in let high = w.1 in (omega (arith, low), omega (arith, high))

range_once : (x a n : ℕ) → count (λ m. m == x) (range_with_len a n) ≤ 1
range_once x a zero = omega arith
range_once x a (suc n) = step (a == x) refl (range_once x (a + 1) n) where
  later : (y : ℕ) → a ≡ x → In y (range_with_len (a + 1) n) → y ≡ x → ⊥
  later y e i same = let low = (range_within y (a + 1) n i).0 in omega (arith, low, e, same)

  differ : a ≡ x → (y : ℕ) → In y (range_with_len (a + 1) n) → (y == x) ≡ false
  differ e y i = elim (cases_Bool (y == x)) [ inr off ↦ off | inl on ↦ absurd (later y e i ((Decides-eqb y x).0 on)) ]

  step : (b : Bool) → (a == x) ≡ b → count (λ m. m == x) (range_with_len (a + 1) n) ≤ 1 → cond b (1 + count (λ m. m == x) (range_with_len (a + 1) n)) (count (λ m. m == x) (range_with_len (a + 1) n)) ≤ 1
  step true e le = let none : count (λ m. m == x) (range_with_len (a + 1) n) ≡ 0 = count_none (λ m. m == x) (range_with_len (a + 1) n) (differ ((Decides-eqb a x).0 e)) in omega (arith, none)
  step false e le = le

-- ---- the ids of a span whose parts are a range

module _ (span : Extent) (ids : List SegId) (n : ℕ) (is : parts_of span ids ≡ range_with_len 0 n) where
  -- as many ids have a part as stand in the range
  parts_counted : (x : ℕ) → count (λ (a : SegId). a.part == x) (filter (is_of_span span) ids) ≡ count (λ m. m == x) (range_with_len 0 n)
  parts_counted x =
      sym (count_map (λ m. m == x) (λ (a : SegId). a.part) (filter (is_of_span span) ids))
      ∙ sym (count_ascending (λ m. m == x) (map (λ (a : SegId). a.part) (filter (is_of_span span) ids)))
      ∙ ap (count (λ m. m == x)) is

  pub parts_once : (a : SegId) → count (λ x. same_id x a) (filter (is_of_span span) ids) ≤ 1
  parts_once a =
      let fewer : count (λ x. same_id x a) (filter (is_of_span span) ids) ≤ count (λ (x : SegId). x.part == a.part) (filter (is_of_span span) ids) =
      count_le (λ x. same_id x a) (λ (x : SegId). x.part == a.part) (filter (is_of_span span) ids) (λ x i on. (Decides-eqb x.part a.part).1 (ap (λ (x : SegId). x.part) (same_id_means x a on))) in
      let counted : count (λ (x : SegId). x.part == a.part) (filter (is_of_span span) ids) ≡ count (λ m. m == a.part) (range_with_len 0 n) = parts_counted a.part in
      let one : count (λ m. m == a.part) (range_with_len 0 n) ≤ 1 = range_once a.part 0 n in
      omega (arith, fewer, counted, one)

  pub parts_low : (a : SegId) → In a (filter (is_of_span span) ids) → a.part < n
  parts_low a i =
      let some : 0 < count (λ (x : SegId). x.part == a.part) (filter (is_of_span span) ids) = count_some (λ (x : SegId). x.part == a.part) a (filter (is_of_span span) ids) i ((Decides-eqb a.part a.part).1 refl) in
      let w = count_pos (λ m. m == a.part) (range_with_len 0 n) (subst (λ k. 0 < k) (parts_counted a.part) some) in
      let same : w.0 ≡ a.part = (Decides-eqb w.0 a.part).0 w.2 in
      let high = (range_within w.0 0 n w.1).1 in
      omega (arith, same, high)
