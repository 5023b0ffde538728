-- The date that a walk by years and months comes to.
use Rattle.std.proofs.Common.{◌≡◌, ℕ, zero, suc, ◌+◌, ◌-◌, ◌<◌, ◌≤◌, Bool, true, false, cond, nat_lt, refl, ◌∙◌, arith, pos}
use Rattle.std.proofs.lemmas.Bool.{ltb-true, ltb-false}
use Rattle.std.proofs.lemmas.Int.{ints}
use Rattle.jiff_core.specs.Calendar.{days_in_year, days_in_month, days_of_months, day_count, IsCivilDate}
use Rattle.jiff_core.proofs.CalendarLemmas.{day_count-next_year, days_of_months_more, days_of_months_all, days_of_months-zero, day_count-day_of_year, day_count-end, day_count-lt_year}
use Rattle.jiff_core.proofs.MarchLemmas.{day_count-early}
use Rattle.iv_time.specs.Civil.{year_from, month_from, Civil, civil_of}

-- what the walk by years comes to
record YearIs (y left end : ℕ) (found : ℕ × ℕ) : Type 0 where
  pub same : day_count (pos found.0) 1 1 + found.1 ≡ day_count (pos y) 1 1 + left
  pub within : found.1 < days_in_year (pos found.0)
  pub before : found.0 < end

next_year : (y : ℕ) → day_count (pos (suc y)) 1 1 ≡ day_count (pos y) 1 1 + days_in_year (pos y)
next_year y = day_count-next_year (pos y) (pos (suc y)) (omega (arith, ints)) (omega (arith, ints))

year_by : (k y left : ℕ) (b : Bool) → nat_lt left (days_in_year (pos y)) ≡ b → (days_in_year (pos y) ≤ left → YearIs (suc y) (left - days_in_year (pos y)) (suc y + k) (year_from k (suc y) (left - days_in_year (pos y))))
    → YearIs y left (y + suc k) (cond b (y, left) (year_from k (suc y) (left - days_in_year (pos y))))
year_by k y left true e rest = record { same = refl; within = ltb-true _ _ e; before = omega arith }
year_by k y left false e rest =
    let le : days_in_year (pos y) ≤ left = ltb-false _ _ e in
    let r = rest le in
    record { same = r.same ∙ (let n = next_year y in omega arith); within = r.within; before = omega (arith, r.before) }

year_walk : (k y left : ℕ) → day_count (pos y) 1 1 + left < day_count (pos (y + k)) 1 1 → YearIs y left (y + k) (year_from k y left)
unfolding year_from
year_walk zero y left h = let same : y + 0 ≡ y = omega arith in let g = rw same at h in absurd (omega (arith, g))
year_walk (suc k) y left h = year_by k y left (nat_lt left (days_in_year (pos y))) refl (λ le.
    let n = next_year y in
    let same : y + suc k ≡ suc y + k = omega arith in
    let g : day_count (pos y) 1 1 + left < day_count (pos (suc y + k)) 1 1 = rw same at h in
    year_walk k (suc y) (left - days_in_year (pos y)) (omega (arith, g, n, le)))

-- what the walk by months comes to
record MonthIs (y m left end : ℕ) (found : ℕ × ℕ) : Type 0 where
  pub same : days_of_months (pos y) (found.0 - 1) + found.1 ≡ days_of_months (pos y) (m - 1) + left
  pub within : found.1 < days_in_month (pos y) found.0
  pub after : m ≤ found.0
  pub before : found.0 < end

month_by : (k y m left : ℕ) (b : Bool) → 1 ≤ m → nat_lt left (days_in_month (pos y) m) ≡ b → (days_in_month (pos y) m ≤ left → MonthIs y (suc m) (left - days_in_month (pos y) m) (suc m + k) (month_from k y (suc m) (left - days_in_month (pos y) m)))
    → MonthIs y m left (m + suc k) (cond b (m, left) (month_from k y (suc m) (left - days_in_month (pos y) m)))
month_by k y m left true one e rest = record { same = refl; within = ltb-true _ _ e; after = omega arith; before = omega arith }
month_by k y m left false one e rest =
    let le : days_in_month (pos y) m ≤ left = ltb-false _ _ e in
    let r = rest le in
    let more = days_of_months_more (pos y) m one in
    let back : suc m - 1 ≡ m = omega arith in
    let same = rw back at r.same in
    record { same = same ∙ omega (arith, more, le); within = r.within; after = omega (arith, r.after); before = omega (arith, r.before) }

month_walk : (k y m left : ℕ) → 1 ≤ m → days_of_months (pos y) (m - 1) + left < days_of_months (pos y) (m + k - 1) → MonthIs y m left (m + k) (month_from k y m left)
unfolding month_from
month_walk zero y m left one h = let same : m + 0 - 1 ≡ m - 1 = omega arith in let g = rw same at h in absurd (omega (arith, g))
month_walk (suc k) y m left one h = month_by k y m left (nat_lt left (days_in_month (pos y) m)) one refl (λ le.
    let more = days_of_months_more (pos y) m one in
    let back : suc m - 1 ≡ m = omega arith in
    let same : m + suc k - 1 ≡ suc m + k - 1 = omega arith in
    let g : days_of_months (pos y) (m - 1) + left < days_of_months (pos y) (suc m + k - 1) = rw same at h in
    month_walk k y (suc m) (left - days_in_month (pos y) m) (omega arith) (rw back (omega (arith, g, more, le))))

first_day : day_count (pos 0) 1 1 ≡ 3652425
first_day = day_count-early (pos 0) 9999 1 1 refl (omega arith) (omega arith) (omega arith)

-- the walk comes to the date of the day
pub record CivilIs (days : ℕ) (d : Civil) : Type 0 where
  pub civil : IsCivilDate (pos d.year) d.month d.day
  pub count : day_count (pos d.year) d.month d.day ≡ 3652425 + days
  pub year_in : d.year < 10000

pub civil_is : (days : ℕ) → days < 3652425 → CivilIs days (civil_of days)
unfolding civil_of
civil_is days h =
    let first = first_day in
    let last = day_count-end in
    let same : 0 + 10000 ≡ 10000 = omega arith in
    let far : day_count (pos 0) 1 1 + days < day_count (pos (0 + 10000)) 1 1 = rw same (omega (arith, first, last)) in
    let y = year_walk 10000 0 days far in
    let year = (year_from 10000 0 days).0 in
    let left = (year_from 10000 0 days).1 in
    let none = days_of_months-zero (pos year) in
    let all = days_of_months_all (pos year) in
    let short : days_of_months (pos year) (1 - 1) + left < days_of_months (pos year) (1 + 12 - 1) = rw (none, all) (omega (arith, y.within)) in
    let m = month_walk 12 year 1 left (omega arith) short in
    let found = month_from 12 year 1 left in
    let place = day_count-day_of_year (pos year) found.0 (found.1 + 1) (omega arith) in
    let months : days_of_months (pos year) (found.0 - 1) + found.1 ≡ 0 + left = rw none at m.same in
    record {
      civil = ((omega (arith, ints), omega (arith, ints, y.before)), (omega (arith, m.after), omega (arith, m.before)), (omega arith, omega (arith, m.within)));
      count = omega (arith, place, months, y.same, first);
      year_in = omega (arith, y.before);
    }

-- no date from the year 0 on lies before its first day
pub from_year_zero : (y m d : ℕ) → IsCivilDate (pos y) m d → 3652425 ≤ day_count (pos y) m d
from_year_zero zero m d h =
    let first = first_day in
    let place = day_count-day_of_year (pos 0) m d (omega (arith, h.2.0)) in
    omega (arith, first, place, h.2.0)
from_year_zero (suc y) m d h =
    let first = first_day in
    let one : IsCivilDate (pos 0) 1 1 = ((omega (arith, ints), omega (arith, ints)), (omega arith, omega arith), (omega arith, omega arith)) in
    let later = day_count-lt_year (pos 0) 1 1 (pos (suc y)) m d one (omega (arith, h.2.0)) (omega (arith, ints)) in
    omega (arith, first, later)
