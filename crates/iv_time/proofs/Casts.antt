-- Casts that lose nothing.
use Rattle.std.proofs.Common.{◌≡◌, ℕ, ◌+◌, ◌*◌, ◌/◌, ◌<◌, ◌≤◌, arith, ℤ, pos, ◌-ℤ◌, to_z, of_z, w8, w64, ◌∙◌, ap, ap₂, ◌^◌}
use Rattle.std.proofs.lemmas.Int.{ints}
use Rattle.iv_time.specs.Buckets.{day_span}

pub cast_pair : (a b c d : ℤ) → a ≡ c → b ≡ d → ◌≡◌ {A = ℤ × ℤ} (a, b) (c, d)
cast_pair a b c d p q = ap₂ (λ (x y : ℤ). (x, y)) p q

low : (u m k : ℕ) → k ≤ m → m < 2 ^ 50 → to_z w64 (of_z w64 (to_z w64 k -ℤ pos 62167219200000)) ≡ pos k -ℤ pos 62167219200000
low u m k le h = omega (arith, ints)

pub first_cast : (u m : ℕ) → 0 < u → m < 2 ^ 49 → to_z w64 (of_z w64 (to_z w64 (u * (m / u)) -ℤ pos 62167219200000)) ≡ pos (u * (m / u)) -ℤ pos 62167219200000
first_cast u m one h = low u m (u * (m / u)) (omega arith) (omega arith)

pub last_cast : (u m : ℕ) → 0 < u → u ≤ 86400000 → m < 2 ^ 49 → to_z w64 (of_z w64 (to_z w64 (u * (m / u) + u) -ℤ pos 62167219200000)) ≡ pos (u * (m / u) + u) -ℤ pos 62167219200000
last_cast u m one most h = low u (m + u) (u * (m / u) + u) (omega arith) (omega arith)

pub week_from : (r : ℤ × ℤ) (day : ℕ) (o : ℤ) (w : ℕ)
    → r ≡ day_span (to_z w64 (of_z w64 (to_z w64 (of_z w64 (to_z w64 day -ℤ pos 719528)) -ℤ to_z w64 (of_z w64 (to_z w8 (of_z w8 o)))))) 7
    → o ≡ pos w → w < 7 → day < 3652425 → r ≡ day_span ((pos day -ℤ pos 719528) -ℤ pos w) 7
week_from r day o w e off small lt =
    let first : to_z w64 (of_z w64 (to_z w64 (of_z w64 (to_z w64 day -ℤ pos 719528)) -ℤ to_z w64 (of_z w64 (to_z w8 (of_z w8 o))))) ≡ (pos day -ℤ pos 719528) -ℤ pos w = omega (arith, ints) in
    e ∙ ap (λ (x : ℤ). day_span x 7) first
