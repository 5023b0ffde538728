-- The date of a day, and the text of an instant.
use Rattle.std.specs.Prelude.{ℕ, zero, suc, ◌+◌, ◌-◌, ◌/◌, ◌%◌, List, [], ◌∷◌, ◌++◌, if◌then◌else◌, nat_lt, ℤ, pos, ◌+ℤ◌, unsigned_abs}
use Rattle.jiff_core.specs.Calendar.{days_in_year, days_in_month}

-- year by year: the year that the day lies in, and the day's place in it, from 0
unfoldable pub year_from : ℕ → ℕ → ℕ → ℕ × ℕ
year_from zero y left = (y, left)
year_from (suc k) y left = if nat_lt left (days_in_year (pos y)) then (y, left) else year_from k (suc y) (left - days_in_year (pos y))

-- month by month
unfoldable pub month_from : ℕ → ℕ → ℕ → ℕ → ℕ × ℕ
month_from zero y m left = (m, left)
month_from (suc k) y m left = if nat_lt left (days_in_month (pos y) m) then (m, left) else month_from k y (suc m) (left - days_in_month (pos y) m)

pub record Civil : Type 0 where
  pub year : ℕ
  pub month : ℕ
  pub day : ℕ

abbrev pub civil_in : ℕ → ℕ → Civil
civil_in y left = record { year = y; month = (month_from 12 y 1 left).0; day = (month_from 12 y 1 left).1 + 1 }

-- the date that many days after 0000-01-01
unfoldable pub civil_of : ℕ → Civil
civil_of days = civil_in (year_from 10000 0 days).0 (year_from 10000 0 days).1

abbrev pub two_digits : ℕ → List ℕ
two_digits n = (48 + n / 10) ∷ (48 + n % 10) ∷ []

-- `YYYY-MM-DD`
abbrev pub date_text : Civil → List ℕ
date_text d = two_digits (d.year / 100) ++ (two_digits (d.year % 100) ++ 45 ∷ (two_digits d.month ++ 45 ∷ two_digits d.day))

-- `HH:MM:SS.mmm`
abbrev pub clock_text : ℕ → List ℕ
clock_text ms = two_digits (ms / 3600000) ++ 58 ∷ (two_digits (ms / 60000 % 60) ++ 58 ∷ (two_digits (ms / 1000 % 60) ++ 46 ∷ ((48 + ms % 1000 / 100) ∷ two_digits (ms % 100))))

-- of so many milliseconds after the year 0 began
abbrev pub text_from : ℕ → List ℕ
text_from n = date_text (civil_of (n / 86400000)) ++ 84 ∷ (clock_text (n % 86400000) ++ 90 ∷ [])

-- `YYYY-MM-DDTHH:MM:SS.mmmZ`
abbrev pub instant_text : ℤ → List ℕ
instant_text ms = text_from (unsigned_abs (ms +ℤ pos 62167219200000))
