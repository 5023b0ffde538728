-- What a block is about: its hour, its moment, its name.
use Rattle.std.specs.Prelude.{◌%◌, ◌*◌, ◌+◌, ◌++◌, ◌/◌, List, codes, decimal, pos, ℕ, ℤ}
use Rattle.iv_span.specs.Extent.{Extent}

-- the number that is drawn after this one
abbrev pub draw : ℕ → ℕ
draw x = (x * 6364136223846793005 + 1442695040888963407) % 18446744073709551616

-- the hour of a number that was drawn, of 720
abbrev pub hour_of : ℕ → ℕ
hour_of x = x / 8589934592 % 720

-- the first hour begins at 2024-01-01T00:00 UTC
abbrev pub span_of : ℕ → Extent
span_of hour = record { start = pos (1704067200000 + 3600000 * hour); end = pos (1704067200000 + 3600000 * hour + 3600000) }

-- the first block comes at 2025-01-01T00:00 UTC, and each other a second after the one before
abbrev pub now_of : ℕ → ℤ
now_of block = pos (1735689600000 + 1000 * block)

-- the name of a block's task, of its group and of its sequence
abbrev pub name_of : ℕ → List ℕ
name_of block = codes "load-" ++ decimal block
