-- The ranges of several locks, and of several spans: one span's after another's.
use Rattle.std.proofs.Common.{◌≡◌, ℕ, ℤ, ◌+◌, ◌*◌, zero, suc, List, [], ◌∷◌, ◌++◌, Some, length, map, slice_get, arith, ap, refl, ◌∙◌}
use Rattle.std.specs.List.{flat_map}
use Rattle.std.proofs.lemmas.List.{length-append}
use Rattle.iv_span.specs.Extent.{Extent}
use Rattle.span_keys.specs.Classes.{span_ranges}
use Rattle.tab_pending.specs.Keys.{carry_digest, carry_ranges, ranges_over}

pub get_mapped : {X Y : Type 0} (f : X → Y) (xs : List X) (n : ℕ) (x : X) → slice_get xs n ≡ Some x → slice_get (map f xs) n ≡ Some (f x)
get_mapped f [] n x got = cc
get_mapped f (y ∷ ys) zero x got = let e : y ≡ x = cc in rw e refl
get_mapped f (y ∷ ys) (suc n) x got = get_mapped f ys n x got

get_front : {X : Type 0} (xs ys : List X) (n : ℕ) (x : X) → slice_get xs n ≡ Some x → slice_get (xs ++ ys) n ≡ Some x
get_front [] ys n x got = cc
get_front (y ∷ xs) ys zero x got = got
get_front (y ∷ xs) ys (suc n) x got = get_front xs ys n x got

get_behind : {X : Type 0} (xs ys : List X) (n k : ℕ) → n ≡ length xs + k → slice_get (xs ++ ys) n ≡ slice_get ys k
get_behind [] ys n k e = let same : n ≡ k = omega (arith, e) in ap (λ m. slice_get ys m) same
get_behind (x ∷ xs) ys zero k e = absurd (omega (arith, e))
get_behind (x ∷ xs) ys (suc n) k e = get_behind xs ys n k (omega (arith, e))

module _ {X : Type 0} (f : X → List ((ℕ × ℤ) × ℤ)) (eight : (x : X) → length (f x) ≡ 8) where
  count_all : (xs : List X) → length (flat_map f xs) ≡ length xs * 8
  count_all [] = refl
  count_all (x ∷ xs) =
      let both : length (f x ++ flat_map f xs) ≡ length (f x) + length (flat_map f xs) = length-append (f x) (flat_map f xs) in
      let own : length (f x) ≡ 8 = eight x in
      let rest : length (flat_map f xs) ≡ length xs * 8 = count_all xs in
      both ∙ omega (arith, own, rest)

  -- the range of a class, of the element at a place
  get_at : (xs : List X) (place class at : ℕ) (x : X) (r : (ℕ × ℤ) × ℤ) → at ≡ place * 8 + class → slice_get xs place ≡ Some x → slice_get (f x) class ≡ Some r → slice_get (flat_map f xs) at ≡ Some r
  get_at [] place class at x r e got hit = cc
  get_at (y ∷ ys) zero class at x r e got hit =
      let same : y ≡ x = cc in
      let here : at ≡ class = omega (arith, e) in
      get_front (f y) (flat_map f ys) at r (ap (λ n. slice_get (f y) n) here ∙ (ap (λ z. slice_get (f z) class) same ∙ hit))
  get_at (y ∷ ys) (suc place) class at x r e got hit =
      let own : length (f y) ≡ 8 = eight y in
      get_behind (f y) (flat_map f ys) at (place * 8 + class) (omega (arith, e, own)) ∙ get_at ys place class (place * 8 + class) x r refl got hit

pub count_over : (digest : ℕ) (spans : List Extent) → length (ranges_over digest spans) ≡ length spans * 8
count_over digest spans = count_all (span_ranges digest) (λ s. refl) spans

pub get_over : (digest : ℕ) (spans : List Extent) (place class at : ℕ) (s : Extent) (r : (ℕ × ℤ) × ℤ) → at ≡ place * 8 + class
    → slice_get spans place ≡ Some s → slice_get (span_ranges digest s) class ≡ Some r → slice_get (ranges_over digest spans) at ≡ Some r
get_over digest spans = get_at (span_ranges digest) (λ s. refl) spans

pub count_carried : (span : Extent) (locks : List ℕ) → length (carry_ranges locks span) ≡ length locks * 8
count_carried span locks = count_all (λ n. span_ranges (carry_digest n) span) (λ n. refl) locks

pub get_carried : (span : Extent) (locks : List ℕ) (place class at : ℕ) (n : ℕ) (r : (ℕ × ℤ) × ℤ) → at ≡ place * 8 + class
    → slice_get locks place ≡ Some n → slice_get (span_ranges (carry_digest n) span) class ≡ Some r → slice_get (carry_ranges locks span) at ≡ Some r
get_carried span locks = get_at (λ n. span_ranges (carry_digest n) span) (λ n. refl) locks
