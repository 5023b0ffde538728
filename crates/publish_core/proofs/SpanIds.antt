-- Where the ids of a span stand, in a list whose spans stand in order.
use Rattle.std.proofs.Common.{Bool, List, [], arith, drop, false, filter, get_or, inl, inr, length, length-drop, map, not, refl, subst, suc, sym, take, true, zero, ℕ, ℤ, ◌&&◌, ◌+◌, ◌<◌, ◌<ℤ◌, ◌∙◌, ◌∷◌, ◌≡◌, ◌≤◌, ◌≤ℤ◌, ◌⊎◌}
use Rattle.std.specs.Prelude.{int_le, int_lt}
use Rattle.std.specs.List.Sorted.{IsPartitionPoint, IsPartitionedBy}
use Rattle.std.specs.Ordering.{int_eq}
use Rattle.std.proofs.lemmas.Bool.{and_from, and_parts, cases_Bool, false≢true, not-false, not-true, not_from_false, or_cases, or_left, or_right}
use Rattle.std.proofs.lemmas.Int.{ints}
use Rattle.std.proofs.lemmas.List.{get_or-drop}
use Rattle.iv_span.specs.Extent.{Extent}
use Rattle.seg_names.specs.Ids.{same_extent}
use Rattle.book_rows.specs.Lists.{list_links}
use Rattle.book_rows.specs.Spans.{span_at_most}
use Rattle.apart_spans.proofs.SpanPlaces.{le_true, lt_true, true_le, true_lt}

-- ---- the order of spans

pub true_eq : (a b : ℤ) → int_eq a b ≡ true → a ≡ b
true_eq a b h = grind (arith, ints)

eq_true : (a b : ℤ) → a ≡ b → int_eq a b ≡ true
eq_true a b h = grind (arith, ints)

abbrev AtMost : Extent → Extent → Type 0
AtMost a b = (a.start <ℤ b.start) ⊎ ((a.start ≡ b.start) × (a.end ≤ℤ b.end))

at_most_is : (a b : Extent) → span_at_most a b ≡ true → AtMost a b
at_most_is a b h = elim (or_cases (int_lt a.start b.start) (int_eq a.start b.start && int_le a.end b.end) h) [
  | inl less ↦ inl (true_lt a.start b.start less)
  | inr same ↦ (let both = and_parts (int_eq a.start b.start) (int_le a.end b.end) same in inr (true_eq a.start b.start both.0, true_le a.end b.end both.1))
]

pub at_most_from : (a b : Extent) → AtMost a b → span_at_most a b ≡ true
at_most_from a b (inl less) = or_left (int_lt a.start b.start) (int_eq a.start b.start && int_le a.end b.end) (lt_true a.start b.start less)
at_most_from a b (inr same) =
    or_right (int_lt a.start b.start) (int_eq a.start b.start && int_le a.end b.end)
    (and_from (int_eq a.start b.start) (int_le a.end b.end) (eq_true a.start b.start same.0) (le_true a.end b.end same.1))

chained : (a b c : Extent) → AtMost a b → AtMost b c → AtMost a c
chained a b c (inl h) (inl k) = inl (omega (arith, ints))
chained a b c (inl h) (inr k) = (let same = k.0 in inl (omega (arith, ints)))
chained a b c (inr h) (inl k) = (let same = h.0 in inl (omega (arith, ints)))
chained a b c (inr h) (inr k) = (let one = h.0 in let two = k.0 in let first = h.1 in let second = k.1 in inr (omega (arith, ints), omega (arith, ints)))

at_most_itself : (a : Extent) → span_at_most a a ≡ true
at_most_itself a = at_most_from a a (inr (refl, omega (arith, ints)))

-- spans that come neither before nor after one another are one
both_at_most : (a b : Extent) → AtMost a b → AtMost b a → (a.start ≡ b.start) × (a.end ≡ b.end)
both_at_most a b (inl h) (inl k) = absurd (omega (arith, ints))
both_at_most a b (inl h) (inr k) = (let same = k.0 in absurd (omega (arith, ints)))
both_at_most a b (inr h) (inl k) = (let same = h.0 in absurd (omega (arith, ints)))
both_at_most a b (inr h) (inr k) = (let first = h.1 in let second = k.1 in (h.0, omega (arith, ints)))

same_extent_by : (a b : Extent) → span_at_most a b ≡ true → span_at_most b a ≡ true → same_extent a b ≡ true
same_extent_by a b h k =
    let same = both_at_most a b (at_most_is a b h) (at_most_is b a k) in
    and_from (int_eq a.start b.start) (int_eq a.end b.end) (eq_true a.start b.start same.0) (eq_true a.end b.end same.1)

same_at_most : (a b : Extent) → same_extent a b ≡ true → (span_at_most a b ≡ true) × (span_at_most b a ≡ true)
same_at_most a b h =
    let both = and_parts (int_eq a.start b.start) (int_eq a.end b.end) h in
    let starts : a.start ≡ b.start = true_eq a.start b.start both.0 in
    let ends : a.end ≡ b.end = true_eq a.end b.end both.1 in
    (at_most_from a b (inr (starts, omega (arith, ints))), at_most_from b a (inr (sym starts, omega (arith, ints))))

-- ---- in a list

module _ {X : Type 0} (f : X → Extent) where
  after_first : (x : X) (xs : List X) → list_links span_at_most (f x ∷ map f xs) ≡ true → (k : ℕ) (d : X) → k < length xs → span_at_most (f x) (f (get_or xs k d)) ≡ true
  after_first x [] h k d lt = absurd (omega (arith, lt))
  after_first x (y ∷ ys) h zero d lt = (and_parts (span_at_most (f x) (f y)) (list_links span_at_most (f y ∷ map f ys)) h).0
  after_first x (y ∷ ys) h (suc k) d lt =
      let both = and_parts (span_at_most (f x) (f y)) (list_links span_at_most (f y ∷ map f ys)) h in
      let far : span_at_most (f y) (f (get_or ys k d)) ≡ true = after_first y ys both.1 k d (omega (arith, lt)) in
      at_most_from (f x) (f (get_or ys k d)) (chained (f x) (f y) (f (get_or ys k d)) (at_most_is (f x) (f y) both.0) (at_most_is (f y) (f (get_or ys k d)) far))

  links_rest : (x : X) (xs : List X) → list_links span_at_most (f x ∷ map f xs) ≡ true → list_links span_at_most (map f xs) ≡ true
  links_rest x [] h = refl
  links_rest x (y ∷ ys) h = (and_parts (span_at_most (f x) (f y)) (list_links span_at_most (f y ∷ map f ys)) h).1

  ordered : (xs : List X) → list_links span_at_most (map f xs) ≡ true → (i j : ℕ) (d : X) → i ≤ j → j < length xs → span_at_most (f (get_or xs i d)) (f (get_or xs j d)) ≡ true
  ordered [] h i j d le lt = absurd (omega (arith, lt))
  ordered (x ∷ xs) h zero zero d le lt = at_most_itself (f x)
  ordered (x ∷ xs) h zero (suc j) d le lt = after_first x xs h j d (omega (arith, lt))
  ordered (x ∷ xs) h (suc i) zero d le lt = absurd (omega (arith, le))
  ordered (x ∷ xs) h (suc i) (suc j) d le lt = ordered xs (links_rest x xs h) i j d (omega (arith, le)) (omega (arith, lt))

  -- those that come before a span stand first
  pub before_parts : (s : Extent) (xs : List X) → list_links span_at_most (map f xs) ≡ true → IsPartitionedBy (λ x. not (span_at_most s (f x))) xs
  before_parts s xs h i j d le lt on = elim (cases_Bool (span_at_most s (f (get_or xs i d)))) [
    | inr off ↦ not_from_false (span_at_most s (f (get_or xs i d))) off
    | inl low ↦
        let up : span_at_most (f (get_or xs i d)) (f (get_or xs j d)) ≡ true = ordered xs h i j d le lt in
        let high : span_at_most s (f (get_or xs j d)) ≡ true =
        at_most_from s (f (get_or xs j d)) (chained s (f (get_or xs i d)) (f (get_or xs j d)) (at_most_is s (f (get_or xs i d)) low) (at_most_is (f (get_or xs i d)) (f (get_or xs j d)) up)) in
        absurd (false≢true (sym (not-true (span_at_most s (f (get_or xs j d))) on) ∙ high))
  ]

  -- and so do those that don't come after it
  pub up_to_parts : (s : Extent) (xs : List X) → list_links span_at_most (map f xs) ≡ true → IsPartitionedBy (λ x. span_at_most (f x) s) xs
  up_to_parts s xs h i j d le lt on =
      at_most_from (f (get_or xs i d)) s
      (chained (f (get_or xs i d)) (f (get_or xs j d)) s (at_most_is (f (get_or xs i d)) (f (get_or xs j d)) (ordered xs h i j d le lt)) (at_most_is (f (get_or xs j d)) s on))

  pub links_drop : (n : ℕ) (xs : List X) → list_links span_at_most (map f xs) ≡ true → list_links span_at_most (map f (drop n xs)) ≡ true
  links_drop zero xs h = h
  links_drop (suc n) [] h = refl
  links_drop (suc n) (x ∷ xs) h = links_drop n xs (links_rest x xs h)

-- ---- what passes stands together

filter_none : {X : Type 0} (q : X → Bool) (xs : List X) → ((k : ℕ) (d : X) → k < length xs → q (get_or xs k d) ≡ false) → filter q xs ≡ []
filter_none q [] h = refl
filter_none q (x ∷ xs) h = rw (h 0 x (omega arith), filter_none q xs (λ k d lt. h (suc k) d (omega (arith, lt)))) refl

filter_front : {X : Type 0} (q : X → Bool) (xs : List X) (n : ℕ) → ((k : ℕ) (d : X) → k < n → k < length xs → q (get_or xs k d) ≡ true)
    → ((k : ℕ) (d : X) → n ≤ k → k < length xs → q (get_or xs k d) ≡ false) → filter q xs ≡ take n xs
filter_front q xs zero on off = filter_none q xs (λ k d lt. off k d (omega arith) lt)
filter_front q [] (suc n) on off = refl
filter_front q (x ∷ xs) (suc n) on off =
    rw (on 0 x (omega arith) (omega arith), filter_front q xs n (λ k d lt within. on (suc k) d (omega (arith, lt)) (omega (arith, within))) (λ k d le within. off (suc k) d (omega (arith, le)) (omega (arith, within)))) refl

filter_past : {X : Type 0} (q : X → Bool) (xs : List X) (n : ℕ) → ((k : ℕ) (d : X) → k < n → k < length xs → q (get_or xs k d) ≡ false) → filter q xs ≡ filter q (drop n xs)
filter_past q xs zero off = refl
filter_past q [] (suc n) off = refl
filter_past q (x ∷ xs) (suc n) off = rw (off 0 x (omega arith) (omega arith)) (filter_past q xs n (λ k d lt within. off (suc k) d (omega (arith, lt)) (omega (arith, within))))

module _ {X : Type 0} (f : X → Extent) (s : Extent) (xs : List X) where
  abbrev own : X → Bool
  own x = same_extent (f x) s

  -- those of the span are a part of the list
  pub together : (n count : ℕ) → n ≤ length xs → IsPartitionPoint (λ x. not (span_at_most s (f x)) ≡ true) (λ x. not (span_at_most s (f x)) ≡ false) xs n
      → IsPartitionPoint (λ x. span_at_most (f x) s ≡ true) (λ x. span_at_most (f x) s ≡ false) (drop n xs) count
      → filter own xs ≡ take count (drop n xs)
  together n count within first second =
      filter_past own xs n (λ k d lt in_range. before k d lt)
      ∙ filter_front own (drop n xs) count (λ k d lt in_range. same k d lt in_range) (λ k d le in_range. after k d le in_range) where
        no_before : (x : X) → span_at_most s (f x) ≡ false → own x ≡ false
        no_before x off = elim (cases_Bool (own x)) [ inr other ↦ other | inl on ↦ absurd (false≢true (sym off ∙ (same_at_most (f x) s on).1)) ]

        no_after : (x : X) → span_at_most (f x) s ≡ false → own x ≡ false
        no_after x off = elim (cases_Bool (own x)) [ inr other ↦ other | inl on ↦ absurd (false≢true (sym off ∙ (same_at_most (f x) s on).0)) ]

        before : (k : ℕ) (d : X) → k < n → own (get_or xs k d) ≡ false
        before k d lt = no_before (get_or xs k d) (not-true (span_at_most s (f (get_or xs k d))) (first.0 k d (omega arith) lt))

        from_first : (k : ℕ) (d : X) → k < length (drop n xs) → span_at_most s (f (get_or (drop n xs) k d)) ≡ true
        from_first k d lt =
            subst (λ (x : X). span_at_most s (f x) ≡ true) (sym (get_or-drop n xs k d))
            (not-false (span_at_most s (f (get_or xs (n + k) d))) (first.1 (n + k) d (omega arith) (omega (arith, length-drop n xs, lt, within))))

        same : (k : ℕ) (d : X) → k < count → k < length (drop n xs) → own (get_or (drop n xs) k d) ≡ true
        same k d lt in_range = same_extent_by (f (get_or (drop n xs) k d)) s (second.0 k d (omega arith) lt) (from_first k d in_range)

        after : (k : ℕ) (d : X) → count ≤ k → k < length (drop n xs) → own (get_or (drop n xs) k d) ≡ false
        after k d le in_range = no_after (get_or (drop n xs) k d) (second.1 k d le in_range)
