-- Which numbers are instants.
use Rattle.std.proofs.Common.{◌≡◌, ℕ, true, arith, ℤ, pos, neg_ℤ, ◌≤ℤ◌}
use Rattle.std.proofs.lemmas.Int.{ints}
use Rattle.std.specs.Prelude.{int_le}
use Rattle.std.proofs.lemmas.Bool.{and_from}
use Rattle.jiff_core.specs.Calendar.{days_from_civil, IsCivilDate}
use Rattle.jiff_core.proofs.CalendarLemmas.{days_from_civil-day_count}
use Rattle.jiff_core.proofs.SignedLemmas.{signed_arith}
use Rattle.iv_time.specs.Range.{IsInstant, is_instant}
use Rattle.iv_time.proofs.Walks.{from_year_zero}

pub instant_test : (z : ℤ) → IsInstant z → is_instant z ≡ true
instant_test z h = and_from _ _ (to_le _ z h.0) (to_le z _ h.1)
  where
    to_le : (a b : ℤ) → a ≤ℤ b → int_le a b ≡ true
    to_le a b le = grind (arith, ints)

pub day_from : (y m d : ℕ) → IsCivilDate (pos y) m d → neg_ℤ (pos 719528) ≤ℤ days_from_civil (pos y) m d
day_from y m d h = omega (arith, signed_arith, days_from_civil-day_count (pos y) m d, from_year_zero y m d h)
