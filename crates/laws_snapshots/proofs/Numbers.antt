-- Numbers within their limits fit their fields.
use Rattle.std.proofs.Common.{◌≡◌, ◌<◌, ◌≤◌, ◌<ℤ◌, ◌≤ℤ◌, ℕ, ℤ, pos, negsuc, neg_ℤ, Bool, true, false, List, [], ◌∷◌, arith, length, nat_le, nat_lt}
use Rattle.std.specs.Prelude.{◌&&◌, int_le, int_lt}
use Rattle.std.specs.List.{AllByRecursion, list_all}
use Rattle.std.proofs.lemmas.Int.{ints}
use Rattle.std.proofs.lemmas.Bool.{and_parts}
use Rattle.std.proofs.lemmas.Bool.Decides.{nat_tests}
use Rattle.iv_time.specs.Durations.{is_duration}
use Rattle.iv_time.specs.Range.{is_instant}
use Rattle.iv_span.specs.Extent.{Extent}
use Rattle.book_rows.specs.Spans.{is_span}
use Rattle.snap_codec.specs.Fits.{FitsInt, FitsList, FitsLong, FitsShort, FitsSpan}

-- ---- numbers

pub short_upto : (limit n : ℕ) → limit < 4294967296 → nat_le n limit ≡ true → FitsShort n
short_upto limit n small h = let le : n ≤ limit = grind (arith, nat_tests) in omega (arith, le, small)

pub long_upto : (limit n : ℕ) → limit < 18446744073709551616 → nat_le n limit ≡ true → FitsLong n
long_upto limit n small h = let le : n ≤ limit = grind (arith, nat_tests) in omega (arith, le, small)

-- a number that isn't above the limit
pub short_within : (limit n : ℕ) → limit < 4294967296 → nat_lt limit n ≡ false → FitsShort n
short_within limit n small h = let le : n ≤ limit = grind (arith, nat_tests) in omega (arith, le, small)

pub within : (limit n : ℕ) → nat_lt limit n ≡ false → n ≤ limit
within limit n h = grind (arith, nat_tests)

at_most : (a b : ℤ) → int_le a b ≡ true → a ≤ℤ b
at_most a b h = grind (arith, ints)

less : (a b : ℤ) → int_lt a b ≡ true → a <ℤ b
less a b h = grind (arith, ints)

pub instant_fits : (z : ℤ) → is_instant z ≡ true → FitsInt z
instant_fits z h =
    let both = and_parts _ _ h in
    let low : neg_ℤ (pos 62167219200000) ≤ℤ z = at_most _ z both.0 in
    let high : z ≤ℤ pos 253402300799999 = at_most z _ both.1 in
    omega (arith, ints)

pub duration_fits : (z : ℤ) → is_duration z ≡ true → FitsInt z
duration_fits (pos n) h = let le : n ≤ 36609996339000 = grind (arith, nat_tests) in omega (arith, ints)
duration_fits (negsuc n) h = absurd cc

pub span_fits : (s : Extent) → is_span s ≡ true → FitsSpan s
span_fits s h =
    let order = and_parts (is_instant s.start && is_instant s.end) (int_lt s.start s.end) h in
    let ends = and_parts (is_instant s.start) (is_instant s.end) order.0 in
    (instant_fits s.start ends.0, (instant_fits s.end ends.1, less s.start s.end order.1))

-- ---- lists

pub each_fits : {X : Type 0} (p : X → Bool) (P : X → Type 0) → ((x : X) → p x ≡ true → P x) → (xs : List X) → list_all p xs ≡ true → AllByRecursion P xs
each_fits p P f [] h = tt
each_fits p P f (x ∷ xs) h = let both = and_parts (p x) (list_all p xs) h in (f x both.0, each_fits p P f xs both.1)

-- a short list of what fits
pub few_fit : {X : Type 0} (p : X → Bool) (P : X → Type 0) → ((x : X) → p x ≡ true → P x) → (limit : ℕ) → limit < 4294967296 → (xs : List X) → nat_le (length xs) limit ≡ true → list_all p xs ≡ true → FitsList P xs
few_fit p P f limit small xs few h = (short_upto limit (length xs) small few, each_fits p P f xs h)
