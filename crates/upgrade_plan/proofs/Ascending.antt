-- Ids whose spans ascend: those of one span stand together.
use Rattle.std.proofs.Common.{◌&&◌, ◌<◌, ◌∷◌, ◌≡◌, ◌≤◌, Bool, List, [], arith, drop, false, filter, get_or, inl, inr, int_le, int_lt, length, not, refl, suc, sym, take, true, zero, ℕ, ℤ}
use Rattle.std.specs.List.Sorted.{IsPartitionPoint, IsPartitionedBy}
use Rattle.std.specs.Ordering.{int_eq}
use Rattle.std.proofs.lemmas.Bool.{and_from, and_parts, both_ways, cases_Bool, not-true, not_from_false, or_cases, or_left, or_right}
use Rattle.std.proofs.lemmas.Int.{ints}
use Rattle.iv_span.specs.Extent.{Extent}
use Rattle.seg_names.specs.Ids.{same_extent}
use Rattle.seg_names.specs.declared.seg_id.SegId.{SegId}
use Rattle.book_rows.specs.Ids.{is_of_span}
use Rattle.book_rows.specs.Lists.{list_links}
use Rattle.book_rows.specs.Spans.{span_at_most}
use Rattle.upgrade_plan.specs.BySpan.{spans_ascend}

-- ---- the order of spans

same_int : (x y : ℤ) → int_eq x y ≡ true → x ≡ y
same_int x y e = grind (arith, ints)

itself : (x : ℤ) → int_eq x x ≡ true
itself x = grind (arith, ints)

le_itself : (x : ℤ) → int_le x x ≡ true
le_itself x = grind (arith, ints)

lt_lt : (x y z : ℤ) → int_lt x y ≡ true → int_lt y z ≡ true → int_lt x z ≡ true
lt_lt x y z h k = grind (arith, ints)

le_le : (x y z : ℤ) → int_le x y ≡ true → int_le y z ≡ true → int_le x z ≡ true
le_le x y z h k = grind (arith, ints)

by_start : (a b : Extent) → int_lt a.start b.start ≡ true → span_at_most a b ≡ true
by_start a b h = or_left (int_lt a.start b.start) (int_eq a.start b.start && int_le a.end b.end) h

by_end : (a b : Extent) → a.start ≡ b.start → int_le a.end b.end ≡ true → span_at_most a b ≡ true
by_end a b e h =
    let same : int_eq a.start b.start ≡ true = rw e (itself b.start) in
    or_right (int_lt a.start b.start) (int_eq a.start b.start && int_le a.end b.end) (and_from (int_eq a.start b.start) (int_le a.end b.end) same h)

-- the cases of one span not behind another
module _ (a b : Extent) (P : Type 0) (start : int_lt a.start b.start ≡ true → P) (end : a.start ≡ b.start → int_le a.end b.end ≡ true → P) where
  by_cases : span_at_most a b ≡ true → P
  by_cases h =
      elim (or_cases (int_lt a.start b.start) (int_eq a.start b.start && int_le a.end b.end) h) [
        | inl lt ↦ start lt
        | inr both ↦ (let parts = and_parts (int_eq a.start b.start) (int_le a.end b.end) both in end (same_int a.start b.start parts.0) parts.1)
      ]

at_most_through : (a b c : Extent) → span_at_most a b ≡ true → span_at_most b c ≡ true → span_at_most a c ≡ true
at_most_through a b c ab bc =
    by_cases a b (span_at_most a c ≡ true)
    (λ lt. by_cases b c (span_at_most a c ≡ true) (λ next. by_start a c (lt_lt a.start b.start c.start lt next)) (λ e le. by_start a c (rw (← e) lt)) bc)
    (λ e le. by_cases b c (span_at_most a c ≡ true) (λ next. by_start a c (rw e next)) (λ f next. by_end a c (rw (e, f) refl) (le_le a.end b.end c.end le next)) bc)
    ab

-- a span isn't behind itself
same_at_most : (a b : Extent) → same_extent a b ≡ true → span_at_most a b ≡ true
same_at_most a b on =
    let ends = and_parts (int_eq a.start b.start) (int_eq a.end b.end) on in
    let e : a.end ≡ b.end = same_int a.end b.end ends.1 in
    by_end a b (same_int a.start b.start ends.0) (rw e (le_itself b.end))

at_most_same : (a b : Extent) → same_extent a b ≡ true → span_at_most b a ≡ true
at_most_same a b on =
    let ends = and_parts (int_eq a.start b.start) (int_eq a.end b.end) on in
    let s : a.start ≡ b.start = same_int a.start b.start ends.0 in
    let e : a.end ≡ b.end = same_int a.end b.end ends.1 in
    by_end b a (rw s refl) (rw e (le_itself b.end))

-- ---- tests that split an ascending list

-- a test that passes what stands before what passes splits a list that is in order
module _ {X : Type 0} (link : X → X → Bool) (p : X → Bool) (down : (x y : X) → link x y ≡ true → p y ≡ true → p x ≡ true) where
  linked : (x y : X) (ys : List X) → list_links link (x ∷ y ∷ ys) ≡ true → (link x y ≡ true) × (list_links link (y ∷ ys) ≡ true)
  linked x y ys h = and_parts (link x y) (list_links link (y ∷ ys)) h

  first_passes : (x : X) (xs : List X) → list_links link (x ∷ xs) ≡ true → (j : ℕ) (d : X) → j < length (x ∷ xs) → p (get_or (x ∷ xs) j d) ≡ true → p x ≡ true
  first_passes x xs h zero d lt on = on
  first_passes x [] h (suc j) d lt on = absurd (omega (arith, lt))
  first_passes x (y ∷ ys) h (suc j) d lt on = let w = linked x y ys h in down x y w.0 (first_passes y ys w.1 j d (omega (arith, lt)) on)

  rest_linked : (x : X) (xs : List X) → list_links link (x ∷ xs) ≡ true → list_links link xs ≡ true
  rest_linked x [] h = refl
  rest_linked x (y ∷ ys) h = (linked x y ys h).1

  pub partitioned : (xs : List X) → list_links link xs ≡ true → IsPartitionedBy p xs
  partitioned [] h i j d le lt on = absurd (omega (arith, lt))
  partitioned (x ∷ xs) h zero j d le lt on = first_passes x xs h j d lt on
  partitioned (x ∷ xs) h (suc i) zero d le lt on = absurd (omega (arith, le))
  partitioned (x ∷ xs) h (suc i) (suc j) d le lt on = partitioned xs (rest_linked x xs h) i j d (omega (arith, le)) (omega (arith, lt)) on

  pub rest_links : (n : ℕ) (xs : List X) → list_links link xs ≡ true → list_links link (drop n xs) ≡ true
  rest_links zero xs h = h
  rest_links (suc n) [] h = refl
  rest_links (suc n) (x ∷ xs) h = rest_links n xs (rest_linked x xs h)

-- ---- what doesn't pass may be left out

module _ {X : Type 0} (p : X → Bool) where
  none_left : (xs : List X) → ((k : ℕ) (d : X) → k < length xs → p (get_or xs k d) ≡ false) → filter p xs ≡ []
  none_left [] h = refl
  none_left (x ∷ xs) h =
      let off : p x ≡ false = h 0 x (omega arith) in
      rw off (none_left xs (λ k d lt. h (suc k) d (omega (arith, lt))))

  pub without_front : (n : ℕ) (xs : List X) → ((k : ℕ) (d : X) → k < n → k < length xs → p (get_or xs k d) ≡ false) → filter p (drop n xs) ≡ filter p xs
  without_front zero xs h = refl
  without_front (suc n) [] h = refl
  without_front (suc n) (x ∷ xs) h =
      let off : p x ≡ false = h 0 x (omega arith) (omega arith) in
      rw off (without_front n xs (λ k d lt in'. h (suc k) d (omega (arith, lt)) (omega (arith, in'))))

  pub without_back : (n : ℕ) (xs : List X) → ((k : ℕ) (d : X) → n ≤ k → k < length xs → p (get_or xs k d) ≡ false) → filter p (take n xs) ≡ filter p xs
  without_back zero xs h = sym (none_left xs (λ k d lt. h k d (omega arith) lt))
  without_back (suc n) [] h = refl
  without_back (suc n) (x ∷ xs) h =
      let rest : filter p (take n xs) ≡ filter p xs = without_back n xs (λ k d le in'. h (suc k) d (omega (arith, le)) (omega (arith, in'))) in
      rw rest refl

-- ---- ids

abbrev id_at_most : SegId → SegId → Bool
id_at_most a b = span_at_most a.span b.span

module _ (span : Extent) where
  abbrev pub is_front : SegId → Bool
  is_front a = not (span_at_most span a.span)

  abbrev pub is_up_to : SegId → Bool
  is_up_to a = span_at_most a.span span

  front_down : (a b : SegId) → id_at_most a b ≡ true → is_front b ≡ true → is_front a ≡ true
  front_down a b le on =
      elim (cases_Bool (span_at_most span a.span)) [
        | inl behind ↦ absurd (both_ways (span_at_most span b.span) (not-true (span_at_most span b.span) on) (at_most_through span a.span b.span behind le))
        | inr off ↦ not_from_false (span_at_most span a.span) off
      ]

  pub front_splits : (ids : List SegId) → spans_ascend ids ≡ true → IsPartitionedBy is_front ids
  front_splits ids h = partitioned id_at_most is_front front_down ids h

  pub up_to_splits : (ids : List SegId) → spans_ascend ids ≡ true → IsPartitionedBy is_up_to ids
  up_to_splits ids h = partitioned id_at_most is_up_to (λ a b le on. at_most_through a.span b.span span le on) ids h

  pub rest_ascends : (n : ℕ) (ids : List SegId) → spans_ascend ids ≡ true → spans_ascend (drop n ids) ≡ true
  rest_ascends n ids h = rest_links id_at_most is_front front_down n ids h

  -- an id of the span isn't in front of it, and not behind it
  front_is_other : (a : SegId) → is_front a ≡ true → is_of_span span a ≡ false
  front_is_other a on =
      elim (cases_Bool (is_of_span span a)) [
        | inl same ↦ absurd (both_ways (span_at_most span a.span) (not-true (span_at_most span a.span) on) (at_most_same a.span span same))
        | inr off ↦ off
      ]

  behind_is_other : (a : SegId) → is_up_to a ≡ false → is_of_span span a ≡ false
  behind_is_other a behind =
      elim (cases_Bool (is_of_span span a)) [
        | inl same ↦ absurd (both_ways (span_at_most a.span span) behind (same_at_most a.span span same))
        | inr off ↦ off
      ]

  pub without_before : (n : ℕ) (ids : List SegId) → IsPartitionPoint (λ a. is_front a ≡ true) (λ a. is_front a ≡ false) ids n → filter (is_of_span span) (drop n ids) ≡ filter (is_of_span span) ids
  without_before n ids point = without_front (is_of_span span) n ids (λ k d lt in'. front_is_other (get_or ids k d) (point.0 k d (omega arith) lt))

  pub without_after : (n : ℕ) (ids : List SegId) → IsPartitionPoint (λ a. is_up_to a ≡ true) (λ a. is_up_to a ≡ false) ids n → filter (is_of_span span) (take n ids) ≡ filter (is_of_span span) ids
  without_after n ids point = without_back (is_of_span span) n ids (λ k d le in'. behind_is_other (get_or ids k d) (point.1 k d le in'))
