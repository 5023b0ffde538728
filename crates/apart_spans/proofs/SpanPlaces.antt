-- Where spans that are apart stand in a list.
use Rattle.std.proofs.Common.{Bool, List, [], ap, arith, false, get_or, inl, inr, length, map, refl, subst, suc, sym, true, zero, ℕ, ℤ, ◌&&◌, ◌<◌, ◌<ℤ◌, ◌||◌, ◌∙◌, ◌∷◌, ◌≡◌, ◌≤ℤ◌}
use Rattle.std.specs.Prelude.{int_le, int_lt, slice_get}
use Rattle.std.specs.List.{list_any}
use Rattle.std.specs.List.Sorted.{IsPartitionPoint, IsPartitionedBy}
use Rattle.std.specs.Ordering.{int_eq}
use Rattle.std.proofs.lemmas.Bool.{and_parts, cases_order}
use Rattle.std.proofs.lemmas.Int.{ints}
use Rattle.iv_span.specs.Extent.{Extent}
use Rattle.apart_spans.specs.Apart.{are_apart, passes_at}

-- ---- tests of instants

pub true_lt : (a b : ℤ) → int_lt a b ≡ true → a <ℤ b
true_lt a b h = grind (arith, ints)

pub false_lt : (a b : ℤ) → int_lt a b ≡ false → b ≤ℤ a
false_lt a b h = grind (arith, ints)

pub true_le : (a b : ℤ) → int_le a b ≡ true → a ≤ℤ b
true_le a b h = grind (arith, ints)

pub lt_true : (a b : ℤ) → a <ℤ b → int_lt a b ≡ true
lt_true a b h = grind (arith, ints)

pub lt_false : (a b : ℤ) → b ≤ℤ a → int_lt a b ≡ false
lt_false a b h = grind (arith, ints)

pub le_true : (a b : ℤ) → a ≤ℤ b → int_le a b ≡ true
le_true a b h = grind (arith, ints)

below_differs : (a b : ℤ) → a <ℤ b → int_eq a b ≡ false
below_differs a b h = grind (arith, ints)

above_differs : (a b : ℤ) → b <ℤ a → int_eq a b ≡ false
above_differs a b h = grind (arith, ints)

-- ---- spans that are apart

pub real_of : (s : Extent) (ss : List Extent) → are_apart (s ∷ ss) ≡ true → s.start <ℤ s.end
real_of s [] h = true_lt s.start s.end h
real_of s (t ∷ ss) h =
    let both = and_parts (int_lt s.start s.end && int_le s.end t.start) (are_apart (t ∷ ss)) h in
    true_lt s.start s.end (and_parts (int_lt s.start s.end) (int_le s.end t.start) both.0).0

pub next_of : (s t : Extent) (ss : List Extent) → are_apart (s ∷ t ∷ ss) ≡ true → s.end ≤ℤ t.start
next_of s t ss h =
    let both = and_parts (int_lt s.start s.end && int_le s.end t.start) (are_apart (t ∷ ss)) h in
    true_le s.end t.start (and_parts (int_lt s.start s.end) (int_le s.end t.start) both.0).1

pub rest_of : (s : Extent) (ss : List Extent) → are_apart (s ∷ ss) ≡ true → are_apart ss ≡ true
rest_of s [] h = refl
rest_of s (t ∷ ss) h = (and_parts (int_lt s.start s.end && int_le s.end t.start) (are_apart (t ∷ ss)) h).1

module _ {X : Type 0} (f : X → Extent) where
  later : (x : X) (xs : List X) → are_apart (f x ∷ map f xs) ≡ true → (k : ℕ) (d : X) → k < length xs → (f x).end ≤ℤ (f (get_or xs k d)).start
  later x [] h k d lt = absurd (omega (arith, lt))
  later x (y ∷ ys) h zero d lt = next_of (f x) (f y) (map f ys) h
  later x (y ∷ ys) h (suc k) d lt =
      let near : (f x).end ≤ℤ (f y).start = next_of (f x) (f y) (map f ys) h in
      let rest : are_apart (f y ∷ map f ys) ≡ true = rest_of (f x) (f y ∷ map f ys) h in
      let real : (f y).start <ℤ (f y).end = real_of (f y) (map f ys) rest in
      let far : (f y).end ≤ℤ (f (get_or ys k d)).start = later y ys rest k d (omega (arith, lt)) in
      omega (arith, ints)

  -- their starts ascend
  pub rising : (xs : List X) → are_apart (map f xs) ≡ true → (i j : ℕ) (d : X) → i < j → j < length xs → (f (get_or xs i d)).start <ℤ (f (get_or xs j d)).start
  rising [] h i j d lt within = absurd (omega (arith, within))
  rising (x ∷ xs) h i zero d lt within = absurd (omega (arith, lt))
  rising (x ∷ xs) h zero (suc j) d lt within =
      let real : (f x).start <ℤ (f x).end = real_of (f x) (map f xs) h in
      let far : (f x).end ≤ℤ (f (get_or xs j d)).start = later x xs h j d (omega (arith, within)) in
      omega (arith, ints)
  rising (x ∷ xs) h (suc i) (suc j) d lt within = rising xs (rest_of (f x) (map f xs) h) i j d (omega (arith, lt)) (omega (arith, within))

  pub partitioned : (t : ℤ) (xs : List X) → are_apart (map f xs) ≡ true → IsPartitionedBy (λ x. int_lt (f x).start t) xs
  partitioned t xs h i j d le within on = elim (cases_order i j) [
    | inl same ↦ subst (λ (k : ℕ). int_lt (f (get_or xs k d)).start t ≡ true) (sym same) on
    | inr (inl lt) ↦
        let less : (f (get_or xs i d)).start <ℤ (f (get_or xs j d)).start = rising xs h i j d lt within in
        let below : (f (get_or xs j d)).start <ℤ t = true_lt (f (get_or xs j d)).start t on in
        lt_true (f (get_or xs i d)).start t (omega (arith, ints))
    | inr (inr gt) ↦ absurd (omega (arith, le, gt))
  ]

  -- of all but the one at the place the starts are others
  pub others_begin : (t : ℤ) (xs : List X) (at : ℕ) → are_apart (map f xs) ≡ true → IsPartitionPoint (λ x. int_lt (f x).start t ≡ true) (λ x. int_lt (f x).start t ≡ false) xs at
      → (k : ℕ) (d : X) → k < length xs → (k ≡ at → ⊥) → int_eq (f (get_or xs k d)).start t ≡ false
  others_begin t xs at h place k d within other = elim (cases_order k at) [
    | inl same ↦ absurd (other same)
    | inr (inl lt) ↦ below_differs (f (get_or xs k d)).start t (true_lt (f (get_or xs k d)).start t (place.0 k d (omega arith) lt))
    | inr (inr gt) ↦
        let less : (f (get_or xs at d)).start <ℤ (f (get_or xs k d)).start = rising xs h at k d gt within in
        let from : t ≤ℤ (f (get_or xs at d)).start = false_lt (f (get_or xs at d)).start t (place.1 at d (omega arith) (omega (arith, gt, within))) in
        above_differs (f (get_or xs k d)).start t (omega (arith, ints))
  ]

-- ---- one of a list, by the place where it can stand

pub or_none : (b : Bool) → (b || false) ≡ b
or_none true = refl
or_none false = refl

none_passes : {X : Type 0} (test : X → Bool) (xs : List X) → ((k : ℕ) (d : X) → k < length xs → test (get_or xs k d) ≡ false) → list_any test xs ≡ false
none_passes test [] h = refl
none_passes test (x ∷ xs) h =
    let off : test x ≡ false = h 0 x (omega arith) in
    rw (off, none_passes test xs (λ k d lt. h (suc k) d (omega (arith, lt)))) refl

pub any_at : {X : Type 0} (test : X → Bool) (xs : List X) (at : ℕ) → ((k : ℕ) (d : X) → k < length xs → (k ≡ at → ⊥) → test (get_or xs k d) ≡ false) → list_any test xs ≡ passes_at test (slice_get xs at)
any_at test [] at h = refl
any_at test (x ∷ xs) zero h =
    let none : list_any test xs ≡ false = none_passes test xs (λ k d lt. h (suc k) d (omega (arith, lt)) (λ e. omega (arith, e))) in
    ap (λ (b : Bool). test x || b) none ∙ or_none (test x)
any_at test (x ∷ xs) (suc at) h =
    let off : test x ≡ false = h 0 x (omega arith) (λ e. omega (arith, e)) in
    ap (λ (b : Bool). b || list_any test xs) off ∙ any_at test xs at (λ k d lt other. h (suc k) d (omega (arith, lt)) (λ e. other (omega (arith, e))))

pub map_same : {X : Type 0} (xs : List X) → map (λ x. x) xs ≡ xs
map_same [] = refl
map_same (x ∷ xs) = ap (λ (ys : List _). x ∷ ys) (map_same xs)

pub starts_part : (t : ℤ) (spans : List Extent) → are_apart spans ≡ true → IsPartitionedBy (λ s. int_lt s.start t) spans
starts_part t spans h = partitioned (λ (s : Extent). s) t spans (subst (λ (ss : List Extent). are_apart ss ≡ true) (sym (map_same spans)) h)
