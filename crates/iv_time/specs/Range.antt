-- The instants that there are, in milliseconds from 1970-01-01T00:00 UTC.
use Rattle.std.specs.Prelude.{ℤ, ◌≤ℤ◌, Bool, ◌&&◌, int_le}
use Rattle.iv_time.specs.declared.range.TheConstants.{FIRST_INSTANT, LAST_INSTANT}

-- 0000-01-01T00:00:00.000 and 9999-12-31T23:59:59.999, both in UTC
abbrev pub first_instant : ℤ
first_instant = FIRST_INSTANT

abbrev pub last_instant : ℤ
last_instant = LAST_INSTANT

-- from the first to the last
abbrev pub IsInstant : ℤ → Type 0
IsInstant ms = (first_instant ≤ℤ ms) × (ms ≤ℤ last_instant)

-- the same as a test
abbrev pub is_instant : ℤ → Bool
is_instant ms = int_le first_instant ms && int_le ms last_instant
