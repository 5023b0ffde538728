-- The texts of instants, and the milliseconds from 1970-01-01 on that they stand for.
use Rattle.std.specs.Prelude.{ℕ, ◌+◌, ◌-◌, ◌*◌, ◌&&◌, ◌==◌, List, [], ◌∷◌, Bool, true, false, Option, Some, None, if◌then◌else◌, nat_le, nat_lt, ℤ, pos, ◌+ℤ◌, ◌*ℤ◌}
use Rattle.jiff_core.specs.Calendar.{days_in_month, days_from_civil}

infixl 10 ◌>>=◌
abbrev pub ◌>>=◌ : {A B : Type 0} → Option A → (A → Option B) → Option B
(Some x) >>= f = f x
None >>= f = None

abbrev pub is_digit : ℕ → Bool
is_digit x = nat_le 48 x && nat_le x 57

-- a number of two digits, and the bytes after it
unfoldable pub two_at : List ℕ → Option (ℕ × List ℕ)
two_at [] = None
two_at (a ∷ []) = None
two_at (a ∷ b ∷ rest) = if is_digit a && is_digit b then Some (10 * (a - 48) + (b - 48), rest) else None

unfoldable pub one_at : List ℕ → Option (ℕ × List ℕ)
one_at [] = None
one_at (a ∷ rest) = if is_digit a then Some (a - 48, rest) else None

unfoldable pub three_at : List ℕ → Option (ℕ × List ℕ)
three_at text = do
  a ← one_at text
  b ← two_at a.1
  Some (100 * a.0 + b.0, b.1)

unfoldable pub four_at : List ℕ → Option (ℕ × List ℕ)
four_at text = do
  a ← two_at text
  b ← two_at a.1
  Some (100 * a.0 + b.0, b.1)

-- what follows that byte
unfoldable pub after : ℕ → List ℕ → Option (List ℕ)
after x [] = None
after x (y ∷ rest) = if y == x then Some rest else None

-- the calendar has this day
abbrev pub is_date : ℕ → ℕ → ℕ → Bool
is_date y m d = nat_le 1 m && nat_le m 12 && nat_le 1 d && nat_le d (days_in_month (pos y) m)

-- the day number of a date, 0 for 1970-01-01
unfoldable pub day_of : ℕ → ℕ → ℕ → Option ℤ
day_of y m d = if is_date y m d then Some (days_from_civil (pos y) m d) else None

-- `YYYY-MM-DD`: its day number, 0 for 1970-01-01
unfoldable pub date_at : List ℕ → Option (ℤ × List ℕ)
date_at text = do
  y ← four_at text
  m_text ← after 45 y.1
  m ← two_at m_text
  d_text ← after 45 m.1
  d ← two_at d_text
  day ← day_of y.0 m.0 d.0
  Some (day, d.1)

-- nothing, or a last `Z`
unfoldable pub is_end : List ℕ → Bool
is_end [] = true
is_end (x ∷ []) = x == 90
is_end (x ∷ y ∷ rest) = false

-- `.mmm` and the end, in milliseconds
unfoldable pub millis_at : List ℕ → Option ℕ
millis_at text = do
  rest ← after 46 text
  m ← three_at rest
  if is_end m.1 then Some m.0 else None

unfoldable pub millis_or_end : List ℕ → Option ℕ
millis_or_end text = if is_end text then Some 0 else millis_at text

-- `:SS` and what may follow
unfoldable pub seconds_at : List ℕ → Option ℕ
seconds_at text = do
  rest ← after 58 text
  s ← two_at rest
  m ← millis_or_end s.1
  if nat_lt s.0 60 then Some (1000 * s.0 + m) else None

unfoldable pub seconds_or_end : List ℕ → Option ℕ
seconds_or_end text = if is_end text then Some 0 else seconds_at text

-- `HH:MM` and what may follow, in milliseconds of the day
unfoldable pub clock_at : List ℕ → Option ℕ
clock_at text = do
  h ← two_at text
  rest ← after 58 h.1
  m ← two_at rest
  s ← seconds_or_end m.1
  if nat_lt h.0 24 && nat_lt m.0 60 then Some (3600000 * h.0 + 60000 * m.0 + s) else None

-- nothing for midnight, or `T` and a clock
unfoldable pub clock_or_none : List ℕ → Option ℕ
clock_or_none [] = Some 0
clock_or_none (x ∷ rest) = if x == 84 then clock_at rest else None

-- the instant that a text stands for
unfoldable pub instant_of : List ℕ → Option ℤ
instant_of text = do
  day ← date_at text
  clock ← clock_or_none day.1
  Some (pos 86400000 *ℤ day.0 +ℤ pos clock)
