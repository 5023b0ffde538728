use Rattle.std.proofs.Common.{refl}
use Rattle.iv_time.specs.Civil.{civil_of, month_from, year_from}
use Rattle.jiff_core.specs.Calendar.{day_count, days_from_civil, days_of_months, days_of_years, weekday_number}
use Rattle.cases_rules.proofs.places.weeks_and_leap_day.Goals as goal

pub returns : goal.returns
unfolding civil_of month_from year_from day_count days_from_civil days_of_months days_of_years weekday_number
returns c = (refl, refl, refl, refl, refl)
