-- A bucket is a span: its ends are instants, and it starts before it ends.
use Rattle.std.proofs.Common.{◌≡◌, ℕ, ◌+◌, ◌*◌, ◌/◌, ◌<◌, ℤ, pos, ◌+ℤ◌, ◌-ℤ◌, ◌*ℤ◌, ◌<ℤ◌, Bool, true, false, cond, ◌&&◌, Some, None, refl, arith, int_lt, subst}
use Rattle.std.proofs.lemmas.Bool.{and_from}
use Rattle.std.proofs.lemmas.Int.{ints}
use Rattle.iv_time.specs.Buckets.{bucket_of, from_zero, span_of}
use Rattle.iv_time.specs.Civil.{civil_of}
use Rattle.iv_time.specs.Range.{is_instant}
use Rattle.iv_time.specs.declared.granularity.Granularity.{Granularity}
use Rattle.iv_time.specs.declared.granularity.Granularity.TheVariants as Granularities
use Rattle.jiff_core.specs.Calendar.{days_from_civil, days_in_month, days_in_year, weekday_number}
use Rattle.jiff_core.proofs.CalendarLemmas.{days_in_month_bounds, days_in_year_bounds}
use Rattle.book_rows.specs.Spans.{is_span}
use Rattle.laws_locks.proofs.Instants.{is_lt}

unit_forward : (n unit : ℕ) → 0 < unit → (pos n -ℤ pos 62167219200000) <ℤ (pos (n + unit) -ℤ pos 62167219200000)
unit_forward n unit some = omega (arith, ints)

days_forward : (first : ℤ) (count : ℕ) → 0 < count → (pos 86400000 *ℤ first) <ℤ (pos 86400000 *ℤ (first +ℤ pos count))
days_forward first count some = omega (arith, ints)

month_some : (y : ℤ) (m : ℕ) → 0 < days_in_month y m
month_some y m = omega (arith, (days_in_month_bounds y m).1)

year_some : (y : ℤ) → 0 < days_in_year y
year_some y = omega (arith, (days_in_year_bounds y).1)

units_forward : (unit : ℕ) (ms : ℤ) → 0 < unit → int_lt (pos (unit * (from_zero ms / unit)) -ℤ pos 62167219200000) (pos (unit * (from_zero ms / unit) + unit) -ℤ pos 62167219200000) ≡ true
units_forward unit ms some = is_lt _ _ (unit_forward (unit * (from_zero ms / unit)) unit some)

forward : (g : Granularity) (ms : ℤ) → int_lt (span_of g ms).0 (span_of g ms).1 ≡ true
forward Granularities.Minute ms = units_forward 60000 ms (omega arith)
forward Granularities.FifteenMinute ms = units_forward 900000 ms (omega arith)
forward Granularities.Hour ms = units_forward 3600000 ms (omega arith)
forward Granularities.Day ms = units_forward 86400000 ms (omega arith)
forward Granularities.Week ms =
    let day : ℤ = pos (from_zero ms / 86400000) -ℤ pos 719528 in
    is_lt _ _ (days_forward (day -ℤ pos (weekday_number day)) 7 (omega arith))
forward Granularities.Month ms =
    let d = civil_of (from_zero ms / 86400000) in
    is_lt _ _ (days_forward (days_from_civil (pos d.year) d.month 1) (days_in_month (pos d.year) d.month) (month_some (pos d.year) d.month))
forward Granularities.Year ms =
    let d = civil_of (from_zero ms / 86400000) in
    is_lt _ _ (days_forward (days_from_civil (pos d.year) 1 1) (days_in_year (pos d.year)) (year_some (pos d.year)))

some_span : (b : Bool) (found ends : ℤ × ℤ) → is_instant found.0 && is_instant found.1 ≡ b → int_lt found.0 found.1 ≡ true → cond b (Some found) None ≡ Some ends → is_span (record { start = ends.0; end = ends.1 }) ≡ true
some_span true found ends e less same =
    let is : found ≡ ends = cc in
    subst (λ (x : ℤ × ℤ). is_span (record { start = x.0; end = x.1 }) ≡ true) is (and_from (is_instant found.0 && is_instant found.1) (int_lt found.0 found.1) e less)
some_span false found ends e less same = cc

pub bucket_is_span : (g : Granularity) (ms : ℤ) (ends : ℤ × ℤ) → bucket_of g ms ≡ Some ends → is_span (record { start = ends.0; end = ends.1 }) ≡ true
bucket_is_span g ms ends e = some_span (is_instant (span_of g ms).0 && is_instant (span_of g ms).1) (span_of g ms) ends refl (forward g ms) e
