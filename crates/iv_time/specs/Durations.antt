-- The texts of durations, and the milliseconds that they stand for.
use Rattle.std.specs.Prelude.{ℕ, ◌+◌, ◌-◌, ◌*◌, ◌%◌, ◌==◌, ◌&&◌, List, [], ◌∷◌, Bool, false, Option, Some, None, if◌then◌else◌, nat_le, unwrap_or, ℤ, pos, negsuc}
use Rattle.iv_time.specs.Texts.{◌>>=◌, is_digit, one_at, after}

-- the number with the digit at the front put to its end, if there is one, and what follows
unfoldable pub with_digit : ℕ → List ℕ → ℕ × List ℕ
with_digit n [] = (n, [])
with_digit n (x ∷ rest) = if is_digit x then (10 * n + (x - 48), rest) else (n, x ∷ rest)

-- the number with at most six more digits
unfoldable pub with_digits : ℕ → List ℕ → ℕ × List ℕ
with_digits n text =
    let two = with_digit n text in
    let three = with_digit two.0 two.1 in
    let four = with_digit three.0 three.1 in
    let five = with_digit four.0 four.1 in
    let six = with_digit five.0 five.1 in
    with_digit six.0 six.1

-- a number of 1 to 7 digits and that letter
unfoldable pub count_at : ℕ → List ℕ → Option (ℕ × List ℕ)
count_at letter text = do
  first ← one_at text
  rest ← after letter (with_digits first.0 first.1).1
  Some ((with_digits first.0 first.1).0, rest)

-- the same, or nothing, which counts 0
unfoldable pub count_or_none : ℕ → List ℕ → ℕ × List ℕ
count_or_none letter text = unwrap_or (count_at letter text) (0, text)

-- hours, minutes and seconds, in seconds
unfoldable pub seconds_in : List ℕ → ℕ × List ℕ
seconds_in text =
    let hours = count_or_none 72 text in
    let minutes = count_or_none 77 hours.1 in
    let seconds = count_or_none 83 minutes.1 in
    (3600 * hours.0 + 60 * minutes.0 + seconds.0, seconds.1)

-- at least one second, and nothing after it
abbrev pub some_seconds : ℕ × List ℕ → Option ℤ
some_seconds (seconds, []) = if nat_le 1 seconds then Some (pos (1000 * seconds)) else None
some_seconds (seconds, x ∷ rest) = None

-- `PT`, then `nH`, `nM` and `nS`, each at most once, in this order, and of at least one second
unfoldable pub duration_of : List ℕ → Option ℤ
duration_of text = do
  rest ← after 80 text
  parts ← after 84 rest
  some_seconds (seconds_in parts)

-- what a duration's text can stand for: whole seconds, from 1 second to 9999999 hours, minutes and seconds
abbrev pub is_duration : ℤ → Bool
is_duration (pos n) = (n % 1000 == 0) && (nat_le 1000 n && nat_le n 36609996339000)
is_duration (negsuc n) = false
