-- What is written is read again.
use Rattle.std.proofs.Common.{◌≡◌, ℕ, ◌+◌, ◌-◌, ◌*◌, ◌/◌, ◌%◌, ◌<◌, true, nat_lt, List, [], ◌∷◌, ◌++◌, Some, refl, ap, ◌∙◌, arith, ℤ, pos, ◌+ℤ◌, ◌*ℤ◌}
use Rattle.std.specs.Prelude.{unsigned_abs}
use Rattle.std.proofs.lemmas.Int.{ints}
use Rattle.std.proofs.lemmas.Bool.Decides.{nat_tests}
use Rattle.jiff_core.specs.Calendar.{days_from_civil, IsCivilDate}
use Rattle.jiff_core.proofs.CalendarLemmas.{days_from_civil-day_count, days_in_month_bounds}
use Rattle.jiff_core.proofs.SignedLemmas.{signed_arith}
use Rattle.iv_time.specs.Texts.{is_digit, one_at, two_at, three_at, four_at, after, date_at, is_end, millis_at, millis_or_end, seconds_at, seconds_or_end, clock_at, clock_or_none, instant_of}
use Rattle.iv_time.specs.Civil.{Civil, civil_of, two_digits, date_text, clock_text, text_from, instant_text}
use Rattle.iv_time.specs.Range.{IsInstant}
use Rattle.iv_time.proofs.Days.{day_if}
use Rattle.iv_time.proofs.Walks.{civil_is}

digit_again : (n : ℕ) → n < 10 → is_digit (48 + n) ≡ true
digit_again n h = grind (arith, nat_tests)

two_again : (n : ℕ) (rest : List ℕ) → n < 100 → two_at (two_digits n ++ rest) ≡ Some (n, rest)
unfolding two_at
two_again n rest h =
    let a = digit_again (n / 10) (omega arith) in
    let b = digit_again (n % 10) (omega arith) in
    let value : 10 * ((48 + n / 10) - 48) + ((48 + n % 10) - 48) ≡ n = omega arith in
    rw (a, b) (ap (λ (v : ℕ). Some (v, rest)) value)

one_again : (n : ℕ) (rest : List ℕ) → n < 10 → one_at ((48 + n) ∷ rest) ≡ Some (n, rest)
unfolding one_at
one_again n rest h =
    let value : (48 + n) - 48 ≡ n = omega arith in
    rw (digit_again n h) (ap (λ (v : ℕ). Some (v, rest)) value)

four_again : (n : ℕ) (rest : List ℕ) → n < 10000 → four_at (two_digits (n / 100) ++ (two_digits (n % 100) ++ rest)) ≡ Some (n, rest)
unfolding four_at
four_again n rest h =
    let value : 100 * (n / 100) + n % 100 ≡ n = omega arith in
    rw (two_again (n / 100) (two_digits (n % 100) ++ rest) (omega arith), two_again (n % 100) rest (omega arith)) (ap (λ (v : ℕ). Some (v, rest)) value)

three_again : (n : ℕ) (rest : List ℕ) → n < 1000 → three_at ((48 + n / 100) ∷ (two_digits (n % 100) ++ rest)) ≡ Some (n, rest)
unfolding three_at
three_again n rest h =
    let value : 100 * (n / 100) + n % 100 ≡ n = omega arith in
    rw (one_again (n / 100) (two_digits (n % 100) ++ rest) (omega arith), two_again (n % 100) rest (omega arith)) (ap (λ (v : ℕ). Some (v, rest)) value)

date_again : (d : Civil) (rest : List ℕ) → d.year < 10000 → IsCivilDate (pos d.year) d.month d.day → date_at (date_text d ++ rest) ≡ Some (days_from_civil (pos d.year) d.month d.day, rest)
unfolding date_at after
date_again d rest h civil =
    let m : d.month < 100 = omega (arith, civil.1.1) in
    let most = days_in_month_bounds (pos d.year) d.month in
    let day : d.day < 100 = omega (arith, civil.2.1, most.0) in
    let is = day_if d.year d.month d.day (pos d.year) (pos d.month) (pos d.day) refl refl refl ((omega (arith, ints), omega (arith, ints)), (omega (arith, ints, civil.1.0), omega (arith, ints, civil.1.1)), (omega (arith, ints, civil.2.0), omega (arith, ints, civil.2.1))) in
    rw (
      four_again d.year (45 ∷ (two_digits d.month ++ 45 ∷ (two_digits d.day ++ rest))) h,
      two_again d.month (45 ∷ (two_digits d.day ++ rest)) m,
      two_again d.day rest day,
      is,
    ) refl

clock_again : (ms : ℕ) → ms < 86400000 → clock_at (clock_text ms ++ 90 ∷ []) ≡ Some ms
unfolding clock_at after seconds_or_end seconds_at millis_or_end millis_at is_end
clock_again ms h =
    let hours : nat_lt (ms / 3600000) 24 ≡ true = grind (arith, nat_tests) in
    let minutes : nat_lt (ms / 60000 % 60) 60 ≡ true = grind (arith, nat_tests) in
    let seconds : nat_lt (ms / 1000 % 60) 60 ≡ true = grind (arith, nat_tests) in
    let part : ms % 1000 % 100 ≡ ms % 100 = omega arith in
    let three : three_at ((48 + ms % 1000 / 100) ∷ (two_digits (ms % 100) ++ 90 ∷ [])) ≡ Some (ms % 1000, 90 ∷ []) = rw part at (three_again (ms % 1000) (90 ∷ []) (omega arith)) in
    let value : 3600000 * (ms / 3600000) + 60000 * (ms / 60000 % 60) + (1000 * (ms / 1000 % 60) + ms % 1000) ≡ ms = omega arith in
    rw (
      two_again (ms / 3600000) (58 ∷ (two_digits (ms / 60000 % 60) ++ 58 ∷ (two_digits (ms / 1000 % 60) ++ 46 ∷ ((48 + ms % 1000 / 100) ∷ (two_digits (ms % 100) ++ 90 ∷ []))))) (omega arith),
      two_again (ms / 60000 % 60) (58 ∷ (two_digits (ms / 1000 % 60) ++ 46 ∷ ((48 + ms % 1000 / 100) ∷ (two_digits (ms % 100) ++ 90 ∷ [])))) (omega arith),
      two_again (ms / 1000 % 60) (46 ∷ ((48 + ms % 1000 / 100) ∷ (two_digits (ms % 100) ++ 90 ∷ []))) (omega arith),
      three,
      seconds,
      hours,
      minutes,
    ) (ap (λ (v : ℕ). Some v) value)

from_again : (n : ℕ) → n < 315569520000000 → instant_of (text_from n) ≡ Some (pos 86400000 *ℤ days_from_civil (pos (civil_of (n / 86400000)).year) (civil_of (n / 86400000)).month (civil_of (n / 86400000)).day +ℤ pos (n % 86400000))
unfolding instant_of clock_or_none
from_again n h =
    let w = civil_is (n / 86400000) (omega arith) in
    rw (date_again (civil_of (n / 86400000)) (84 ∷ (clock_text (n % 86400000) ++ 90 ∷ [])) w.year_in w.civil, clock_again (n % 86400000) (omega arith)) refl

-- What is written is a text of the instant.
pub reads_back : (ms : ℤ) → IsInstant ms → instant_of (instant_text ms) ≡ Some ms
reads_back ms h =
    let n = unsigned_abs (ms +ℤ pos 62167219200000) in
    let is : pos n ≡ ms +ℤ pos 62167219200000 = omega (arith, ints, h.0) in
    let small : n < 315569520000000 = omega (arith, ints, h.1, is) in
    let w = civil_is (n / 86400000) (omega (arith, small)) in
    let d = civil_of (n / 86400000) in
    let number = days_from_civil-day_count (pos d.year) d.month d.day in
    let days : days_from_civil (pos d.year) d.month d.day +ℤ pos 719528 ≡ pos (n / 86400000) = omega (arith, signed_arith, number, w.count) in
    let value : pos 86400000 *ℤ days_from_civil (pos d.year) d.month d.day +ℤ pos (n % 86400000) ≡ ms = omega (arith, signed_arith, ints, days, is) in
    from_again n small ∙ ap (λ (v : ℤ). Some v) value
