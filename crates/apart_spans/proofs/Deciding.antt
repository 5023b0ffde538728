-- Of spans that are apart, the first that ends behind a span's start alone decides whether one overlaps it, and whether it lies within none that does.
use Rattle.std.proofs.Common.{Bool, List, [], ap, arith, false, get_or, inl, inr, length, not, refl, suc, sym, true, zero, ℕ, ℤ, ◌&&◌, ◌<◌, ◌<ℤ◌, ◌||◌, ◌∙◌, ◌∷◌, ◌≡◌, ◌≤ℤ◌}
use Rattle.std.specs.Prelude.{int_le, int_lt, slice_get}
use Rattle.std.specs.List.{list_any}
use Rattle.std.specs.List.Sorted.{IsPartitionPoint, IsPartitionedBy}
use Rattle.std.proofs.lemmas.Bool.{and_from, and_left, and_parts, and_right, cases_Bool, false≢true, not_from_false}
use Rattle.std.proofs.lemmas.Int.{ints}
use Rattle.iv_span.specs.Extent.{Extent, covers, overlap}
use Rattle.apart_spans.specs.Apart.{are_apart, passes_at}
use Rattle.apart_spans.proofs.SpanPlaces.{false_lt, le_true, lt_false, lt_true, next_of, or_none, real_of, rest_of, true_le}

false_le : (a b : ℤ) → int_le a b ≡ false → b <ℤ a
false_le a b h = grind (arith, ints)

-- ---- their ends ascend

after : (x : Extent) (xs : List Extent) → are_apart (x ∷ xs) ≡ true → (k : ℕ) (d : Extent) → k < length xs → x.end ≤ℤ (get_or xs k d).end
after x [] h k d lt = absurd (omega (arith, lt))
after x (y ∷ ys) h zero d lt =
    let near : x.end ≤ℤ y.start = next_of x y ys h in
    let real : y.start <ℤ y.end = real_of y ys (rest_of x (y ∷ ys) h) in
    omega (arith, ints)
after x (y ∷ ys) h (suc k) d lt =
    let near : x.end ≤ℤ y.start = next_of x y ys h in
    let real : y.start <ℤ y.end = real_of y ys (rest_of x (y ∷ ys) h) in
    let far : y.end ≤ℤ (get_or ys k d).end = after y ys (rest_of x (y ∷ ys) h) k d (omega (arith, lt)) in
    omega (arith, ints)

pub ends_part : (t : ℤ) (xs : List Extent) → are_apart xs ≡ true → IsPartitionedBy (λ s. int_le s.end t) xs
ends_part t [] h i j d le lt on = absurd (omega (arith, lt))
ends_part t (x ∷ xs) h zero zero d le lt on = on
ends_part t (x ∷ xs) h zero (suc j) d le lt on =
    let far : x.end ≤ℤ (get_or xs j d).end = after x xs h j d (omega (arith, lt)) in
    let up_to : (get_or xs j d).end ≤ℤ t = true_le (get_or xs j d).end t on in
    le_true x.end t (omega (arith, ints))
ends_part t (x ∷ xs) h (suc i) zero d le lt on = absurd (omega (arith, le))
ends_part t (x ∷ xs) h (suc i) (suc j) d le lt on = ends_part t xs (rest_of x xs h) i j d (omega (arith, le)) (omega (arith, lt)) on

-- ---- one decides

-- a test that no span passes which doesn't overlap this one, and which a span that ends behind its start fails only where it contains what is left of it
module _ (a : Extent) (test : Extent → Bool) (meets : (s : Extent) → overlap s a ≡ false → test s ≡ false) (stops : (s : Extent) → s.start <ℤ s.end → a.start <ℤ s.end → test s ≡ false → a.end ≤ℤ s.end) where
  none_after : (x : Extent) (xs : List Extent) → are_apart (x ∷ xs) ≡ true → a.end ≤ℤ x.end → list_any test xs ≡ false
  none_after x [] h le = refl
  none_after x (y ∷ ys) h le =
      let near : x.end ≤ℤ y.start = next_of x y ys h in
      let rest : are_apart (y ∷ ys) ≡ true = rest_of x (y ∷ ys) h in
      let real : y.start <ℤ y.end = real_of y ys rest in
      let off : test y ≡ false = meets y (and_left (int_lt y.start a.end) (int_lt a.start y.end) (lt_false y.start a.end (omega (arith, ints)))) in
      rw (off, none_after y ys rest (omega (arith, ints))) refl

  decides : (x : Extent) (xs : List Extent) → are_apart (x ∷ xs) ≡ true → a.start <ℤ x.end → (test x || list_any test xs) ≡ test x
  decides x xs h behind = elim (cases_Bool (test x)) [
    | inl on ↦ rw on refl
    | inr off ↦
        let none : list_any test xs ≡ false = none_after x xs h (stops x (real_of x xs h) behind off) in
        ap (λ (b : Bool). test x || b) none ∙ or_none (test x)
  ]

  pub at_place : (n : ℕ) (xs : List Extent) → are_apart xs ≡ true → IsPartitionPoint (λ s. int_le s.end a.start ≡ true) (λ s. int_le s.end a.start ≡ false) xs n → list_any test xs ≡ passes_at test (slice_get xs n)
  at_place n [] h place = refl
  at_place zero (x ∷ xs) h place = decides x xs h (false_le x.end a.start (place.1 0 x (omega arith) (omega arith)))
  at_place (suc n) (x ∷ xs) h place =
      let up_to : x.end ≤ℤ a.start = true_le x.end a.start (place.0 0 x (omega arith) (omega arith)) in
      let off : test x ≡ false = meets x (and_right (int_lt x.start a.end) (int_lt a.start x.end) (lt_false a.start x.end up_to)) in
      ap (λ (b : Bool). b || list_any test xs) off
      ∙ at_place n xs (rest_of x xs h) (λ k d from lt. place.0 (suc k) d (omega arith) (omega (arith, lt)), λ k d from lt. place.1 (suc k) d (omega (arith, from)) (omega (arith, lt)))

-- ---- the two tests

module _ (a : Extent) where
  overlap_stops : (s : Extent) → s.start <ℤ s.end → a.start <ℤ s.end → overlap s a ≡ false → a.end ≤ℤ s.end
  overlap_stops s real behind off = elim (cases_Bool (int_lt s.start a.end)) [
    | inl on ↦ absurd (false≢true (sym off ∙ and_from (int_lt s.start a.end) (int_lt a.start s.end) on (lt_true a.start s.end behind)))
    | inr later ↦ (let from : a.end ≤ℤ s.start = false_lt s.start a.end later in omega (arith, ints))
  ]

  straddle_meets : (s : Extent) → overlap s a ≡ false → (overlap s a && not (covers s a)) ≡ false
  straddle_meets s off = and_left (overlap s a) (not (covers s a)) off

  covers_to : (s : Extent) → covers s a ≡ true → a.end ≤ℤ s.end
  covers_to s on = true_le a.end s.end (and_parts (int_le s.start a.start) (int_le a.end s.end) on).1

  straddle_stops : (s : Extent) → s.start <ℤ s.end → a.start <ℤ s.end → (overlap s a && not (covers s a)) ≡ false → a.end ≤ℤ s.end
  straddle_stops s real behind off = elim (cases_Bool (overlap s a)) [
    | inr apart ↦ overlap_stops s real behind apart
    | inl on ↦
        elim (cases_Bool (covers s a)) [
          | inl whole ↦ covers_to s whole
          | inr part ↦ absurd (false≢true (sym off ∙ and_from (overlap s a) (not (covers s a)) on (not_from_false (covers s a) part)))
        ]
  ]

  module _ (n : ℕ) (xs : List Extent) (h : are_apart xs ≡ true) (place : IsPartitionPoint (λ s. int_le s.end a.start ≡ true) (λ s. int_le s.end a.start ≡ false) xs n) where
    pub overlaps_at : list_any (λ s. overlap s a) xs ≡ passes_at (λ s. overlap s a) (slice_get xs n)
    overlaps_at = at_place a (λ s. overlap s a) (λ s off. off) overlap_stops n xs h place

    pub straddles_at : list_any (λ s. overlap s a && not (covers s a)) xs ≡ passes_at (λ s. overlap s a && not (covers s a)) (slice_get xs n)
    straddles_at = at_place a (λ s. overlap s a && not (covers s a)) straddle_meets straddle_stops n xs h place
