-- The buckets of granularities.
use Rattle.std.specs.Prelude.{ℕ, zero, suc, List, [], ◌∷◌, ◌+◌, ◌*◌, ◌/◌, ◌&&◌, Option, Some, None, if◌then◌else◌, ℤ, pos, ◌+ℤ◌, ◌-ℤ◌, ◌*ℤ◌, unsigned_abs}
use Rattle.jiff_core.specs.Calendar.{days_in_year, days_in_month, days_from_civil, weekday_number}
use Rattle.iv_time.specs.Civil.{Civil, civil_of}
use Rattle.iv_time.specs.Range.{is_instant}
use Rattle.iv_time.specs.declared.granularity.Granularity.{Granularity}
use Rattle.iv_time.specs.declared.granularity.Granularity.TheVariants.{Minute, FifteenMinute, Hour, Day, Week, Month, Year}

-- milliseconds after the year 0 began
abbrev pub from_zero : ℤ → ℕ
from_zero ms = unsigned_abs (ms +ℤ pos 62167219200000)

-- the span of so many milliseconds that has ms: each of these divides a day
abbrev pub unit_span : ℕ → ℤ → ℤ × ℤ
unit_span unit ms = (pos (unit * (from_zero ms / unit)) -ℤ pos 62167219200000, pos (unit * (from_zero ms / unit) + unit) -ℤ pos 62167219200000)

-- so many days from a day on
abbrev pub day_span : ℤ → ℕ → ℤ × ℤ
day_span first count = (pos 86400000 *ℤ first, pos 86400000 *ℤ (first +ℤ pos count))

abbrev pub week_span : ℤ → ℤ × ℤ
week_span day = day_span (day -ℤ pos (weekday_number day)) 7

abbrev pub month_span : Civil → ℤ × ℤ
month_span d = day_span (days_from_civil (pos d.year) d.month 1) (days_in_month (pos d.year) d.month)

abbrev pub year_span : Civil → ℤ × ℤ
year_span d = day_span (days_from_civil (pos d.year) 1 1) (days_in_year (pos d.year))

abbrev pub span_of : Granularity → ℤ → ℤ × ℤ
span_of Minute ms = unit_span 60000 ms
span_of FifteenMinute ms = unit_span 900000 ms
span_of Hour ms = unit_span 3600000 ms
span_of Day ms = unit_span 86400000 ms
span_of Week ms = week_span (pos (from_zero ms / 86400000) -ℤ pos 719528)
span_of Month ms = month_span (civil_of (from_zero ms / 86400000))
span_of Year ms = year_span (civil_of (from_zero ms / 86400000))

-- None where the start or the end is no instant
abbrev pub bucket_of : Granularity → ℤ → Option (ℤ × ℤ)
bucket_of g ms = if is_instant (span_of g ms).0 && is_instant (span_of g ms).1 then Some (span_of g ms) else None

-- the granularities from coarse to fine
abbrev pub finer_of : Granularity → Option Granularity
finer_of Year = Some Month
finer_of Month = Some Week
finer_of Week = Some Day
finer_of Day = Some Hour
finer_of Hour = Some FifteenMinute
finer_of FifteenMinute = Some Minute
finer_of Minute = None

-- the granularities from this one on to the finest, at most so many
abbrev pub finer_ones : ℕ → Option Granularity → List Granularity
finer_ones zero g = []
finer_ones (suc n) None = []
finer_ones (suc n) (Some g) = g ∷ finer_ones n (finer_of g)

-- the granularity and all finer ones: there are seven granularities
abbrev pub and_finer : Granularity → List Granularity
and_finer g = finer_ones 7 (Some g)
