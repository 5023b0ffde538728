-- When the calendar has a day.
use Rattle.std.proofs.Common.{◌≡◌, ◌<◌, ◌≤◌, Some, None, ℕ, Bool, true, false, arith, ℤ, pos, refl, cond}
use Rattle.std.proofs.lemmas.Int.{ints}
use Rattle.std.proofs.lemmas.Bool.Decides.{nat_tests}
use Rattle.jiff_core.specs.Calendar.{IsDate, days_in_month, days_from_civil}
use Rattle.iv_time.specs.Texts.{day_of, is_date}

date_test : (y m d : ℕ) → 1 ≤ m → m ≤ 12 → 1 ≤ d → d ≤ days_in_month (pos y) m → is_date y m d ≡ true
date_test y m d a b e f = grind (arith, nat_tests)

pub test_date : (y m d : ℕ) → is_date y m d ≡ true → (1 ≤ m) × (m ≤ 12) × (1 ≤ d) × (d ≤ days_in_month (pos y) m)
test_date y m d h = (grind (arith, nat_tests), grind (arith, nat_tests), grind (arith, nat_tests), grind (arith, nat_tests))

pub day_if : (y m d : ℕ) (y' m' d' : ℤ) → y' ≡ pos y → m' ≡ pos m → d' ≡ pos d → IsDate y' m' d' → day_of y m d ≡ Some (days_from_civil (pos y) m d)
unfolding day_of
day_if y m d y' m' d' ey em ed h =
    let g : IsDate (pos y) (pos m) (pos d) = rw (ey, em, ed) at h in
    let m1 : 1 ≤ m = omega (arith, ints, g.1.0) in
    let m2 : m ≤ 12 = omega (arith, ints, g.1.1) in
    let d1 : 1 ≤ d = omega (arith, ints, g.2.0) in
    let d2 : d ≤ days_in_month (pos y) m = omega (arith, ints, g.2.1) in
    rw (date_test y m d m1 m2 d1 d2) refl

unless_by : (b : Bool) (x : ℤ) → (b ≡ true → ⊥) → cond b (Some x) None ≡ None
unless_by true x h = absurd (h refl)
unless_by false x h = refl

pub day_unless : (y m d : ℕ) (y' m' d' : ℤ) → y' ≡ pos y → m' ≡ pos m → d' ≡ pos d → y < 10000 → (IsDate y' m' d' → ⊥) → day_of y m d ≡ None
unfolding day_of
day_unless y m d y' m' d' ey em ed small h = unless_by (is_date y m d) (days_from_civil (pos y) m d) (λ e.
    let t = test_date y m d e in
    let g : IsDate (pos y) (pos m) (pos d) = ((omega (arith, ints), omega (arith, ints)), (omega (arith, ints, t.0), omega (arith, ints, t.1)), (omega (arith, ints, t.2), omega (arith, ints, t.3))) in
    h (rw (ey, em, ed) g))
