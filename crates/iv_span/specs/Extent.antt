-- Spans of instants, half open.
use Rattle.std.specs.Prelude.{ℤ, Bool, ◌&&◌, int_lt, int_le, IsTrue}
use Rattle.std.specs.Int.{int_max}

-- a span, from its start, included, to its end, excluded
pub record Extent : Type 0 where
  pub start : ℤ
  pub end : ℤ

-- the instant is one of the span's
abbrev pub has : Extent → ℤ → Bool
has a t = int_le a.start t && int_lt t a.end

-- they share an instant, where each has one
abbrev pub overlap : Extent → Extent → Bool
overlap a b = int_lt a.start b.end && int_lt b.start a.end

-- each instant of the second is one of the first, where the second has one
abbrev pub covers : Extent → Extent → Bool
covers a b = int_le a.start b.start && int_le b.end a.end

-- the span with its end put off to a later one, where that is later
abbrev pub lengthened : Extent → ℤ → Extent
lengthened a end = record { start = a.start; end = int_max a.end end }

-- what the two tests above say, in sets of instants
abbrev pub SharesInstant : Extent → Extent → Type 0
SharesInstant a b = (t : ℤ) × (IsTrue (has a t) × IsTrue (has b t))

abbrev pub HasAllOf : Extent → Extent → Type 0
HasAllOf a b = (t : ℤ) → IsTrue (has b t) → IsTrue (has a t)
