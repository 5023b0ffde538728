-- A date is told by its day number.
use Rattle.std.proofs.Common.{◌≡◌, ℕ, ◌<◌, sym, arith, pos, ◌+ℤ◌}
use Rattle.jiff_core.specs.Date.{epoch_day}
use Rattle.jiff_core.specs.declared.civil.date.Date.{Date}
use Rattle.jiff_core.proofs.CalendarLemmas.{days_from_civil-day_count}
use Rattle.jiff_core.proofs.DateLemmas.{epoch_day_injective}
use Rattle.jiff_core.proofs.SignedLemmas.{signed_arith}
use Rattle.iv_time.specs.Civil.{civil_of}
use Rattle.iv_time.proofs.Walks.{civil_is}

-- the date with that day number has the parts of the walk
pub date_is : (days : ℕ) (day : Date) → days < 3652425 → epoch_day day +ℤ pos 719528 ≡ pos days
    → (day.year ≡ pos (civil_of days).year) × (day.month ≡ (civil_of days).month) × (day.day ≡ (civil_of days).day)
date_is days day h e =
    let w = civil_is days h in
    let d = civil_of days in
    let made : Date = record { year = pos d.year; month = d.month; day = d.day; year_in = w.civil.0; month_in = w.civil.1; day_in = w.civil.2 } in
    let number = days_from_civil-day_count (pos d.year) d.month d.day in
    let same : epoch_day made ≡ epoch_day day = omega (arith, signed_arith, number, w.count, e) in
    let parts = epoch_day_injective made day same in
    (sym parts.0, sym parts.1, sym parts.2)
