-- The ranges of several kinds: one kind's after another's.
use Rattle.std.proofs.Common.{◌≡◌, ℕ, ℤ, ◌+◌, ◌*◌, zero, suc, List, [], ◌∷◌, ◌++◌, Some, length, slice_get, arith, ap, refl, ◌∙◌}
use Rattle.iv_span.specs.Extent.{Extent}
use Rattle.span_keys.specs.Classes.{span_ranges}
use Rattle.row_search.specs.Classes.{class_digest, class_ranges}

pub count_ranges : (source : List ℕ) (span : Extent) (numbers : List ℕ) → length (class_ranges source span numbers) ≡ length numbers * 8
count_ranges source span [] = refl
count_ranges source span (n ∷ ns) = let rest = count_ranges source span ns in omega (arith, rest)

get_front : {X : Type 0} (xs ys : List X) (n : ℕ) (x : X) → slice_get xs n ≡ Some x → slice_get (xs ++ ys) n ≡ Some x
get_front [] ys n x got = cc
get_front (y ∷ xs) ys zero x got = got
get_front (y ∷ xs) ys (suc n) x got = get_front xs ys n x got

get_behind : {X : Type 0} (xs ys : List X) (n k : ℕ) → n ≡ length xs + k → slice_get (xs ++ ys) n ≡ slice_get ys k
get_behind [] ys n k e = let same : n ≡ k = omega (arith, e) in ap (λ m. slice_get ys m) same
get_behind (x ∷ xs) ys zero k e = absurd (omega (arith, e))
get_behind (x ∷ xs) ys (suc n) k e = get_behind xs ys n k (omega (arith, e))

-- the range of a class, of the kind at a place
pub get_range : (source : List ℕ) (span : Extent) (numbers : List ℕ) (place class at number : ℕ) (r : (ℕ × ℤ) × ℤ) → at ≡ place * 8 + class
    → slice_get numbers place ≡ Some number → slice_get (span_ranges (class_digest source number) span) class ≡ Some r → slice_get (class_ranges source span numbers) at ≡ Some r
get_range source span [] place class at number r e got hit = cc
get_range source span (n ∷ ns) zero class at number r e got hit =
    let same : n ≡ number = cc in
    let here : at ≡ class = omega (arith, e) in
    get_front (span_ranges (class_digest source n) span) (class_ranges source span ns) at r
    (ap (λ k. slice_get (span_ranges (class_digest source n) span) k) here ∙ (ap (λ m. slice_get (span_ranges (class_digest source m) span) class) same ∙ hit))
get_range source span (n ∷ ns) (suc place) class at number r e got hit =
    get_behind (span_ranges (class_digest source n) span) (class_ranges source span ns) at (place * 8 + class) (omega (arith, e)) ∙ get_range source span ns place class (place * 8 + class) number r refl got hit
