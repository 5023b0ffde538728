-- The name of a block may be that of a task, of a group and of a sequence.
use Rattle.std.proofs.Common.{◌*◌, ◌+◌, ◌-◌, ◌<◌, ◌∷◌, ◌≡◌, ◌≤◌, List, [], arith, codes, decimal, length, refl, rules, true, ℕ}
use Rattle.std.specs.List.{AllByRecursion, list_all}
use Rattle.std.specs.Str.{IsAscii, all_ascii_digits}
use Rattle.std.proofs.lemmas.Bool.{and_from, and_parts, le-leb}
use Rattle.std.proofs.lemmas.Bool.Decides.{nat_tests}
use Rattle.std.proofs.lemmas.List.Elements.{All-from_recursion}
use Rattle.std.proofs.lemmas.Fmt.{digits_decimal, length-decimal-le}
use Rattle.std.proofs.lemmas.Str.{IsUtf8-from_ascii, is_utf8-from_IsUtf8}
use Rattle.std.proofs.lemmas.Str.Ascii.{IsAscii-from_all}
use Rattle.std.proofs.lemmas.Str.Parse.{IsNumeralModel, numerals_by_fold}
use Rattle.std.specs.Char.{is_ascii_digit}
use Rattle.seg_names.specs.Names.{is_name, is_name_byte, is_task_id}
use Rattle.book_rows.specs.Form.{is_submit_byte, is_submit_text}
use Rattle.load_gen.specs.Draws.{name_of}

-- ---- the digits of a number

abbrev read_on : ℕ → List ℕ → ℕ
read_on n [] = n
read_on n (c ∷ cs) = read_on (10 * n + (c - 48)) cs

own : IsNumeralModel (λ ds. all_ascii_digits ds ≡ true) (read_on 0)
own = numerals_by_fold _ (search rules) read_on (search rules)

digits_of : (n : ℕ) → n < 50000 → (all_ascii_digits (decimal n) ≡ true) × (length (decimal n) ≤ 5)
digits_of n small = search (rules, digits_decimal own, length-decimal-le 5)

digit_byte : (c : ℕ) → is_ascii_digit c ≡ true → is_name_byte c ≡ true
digit_byte c on = grind (arith, nat_tests)

name_bytes : (ds : List ℕ) → all_ascii_digits ds ≡ true → list_all is_name_byte ds ≡ true
name_bytes [] on = refl
name_bytes (c ∷ cs) on = let both = and_parts (is_ascii_digit c) (all_ascii_digits cs) on in and_from (is_name_byte c) (list_all is_name_byte cs) (digit_byte c both.0) (name_bytes cs both.1)

digit_submitted : (c : ℕ) → is_ascii_digit c ≡ true → is_submit_byte c ≡ true
digit_submitted c on = grind (arith, nat_tests)

submit_bytes : (ds : List ℕ) → all_ascii_digits ds ≡ true → list_all is_submit_byte ds ≡ true
submit_bytes [] on = refl
submit_bytes (c ∷ cs) on = let both = and_parts (is_ascii_digit c) (all_ascii_digits cs) on in and_from (is_submit_byte c) (list_all is_submit_byte cs) (digit_submitted c both.0) (submit_bytes cs both.1)

digit_small : (c : ℕ) → is_ascii_digit c ≡ true → c < 128
digit_small c on = grind (arith, nat_tests)

small_bytes : (ds : List ℕ) → all_ascii_digits ds ≡ true → AllByRecursion (λ b. b < 128) ds
small_bytes [] on = tt
small_bytes (c ∷ cs) on = let both = and_parts (is_ascii_digit c) (all_ascii_digits cs) on in (digit_small c both.0, small_bytes cs both.1)

-- ---- behind `load-`

abbrev behind : List ℕ → List ℕ
behind ds = 108 ∷ 111 ∷ 97 ∷ 100 ∷ 45 ∷ ds

behind_is : (n : ℕ) → name_of n ≡ behind (decimal n)
behind_is n = refl

long_enough : (ds : List ℕ) → 1 ≤ length (behind ds)
long_enough ds = omega arith

short_enough : (ds : List ℕ) → length ds ≤ 5 → length (behind ds) ≤ 10
short_enough ds few = omega arith

behind_is_name : (ds : List ℕ) → list_all is_name_byte ds ≡ true → length ds ≤ 5 → is_name (behind ds) ≡ true
behind_is_name ds on few =
    let short : length (behind ds) ≤ 10 = short_enough ds few in
    let most : length (behind ds) ≤ 200 = omega arith in
    rw (le-leb 1 (length (behind ds)) (long_enough ds), le-leb (length (behind ds)) 200 most, on) refl

behind_is_submitted : (ds : List ℕ) → list_all is_submit_byte ds ≡ true → length ds ≤ 5 → is_submit_text (behind ds) ≡ true
behind_is_submitted ds on few =
    let short : length (behind ds) ≤ 10 = short_enough ds few in
    let most : length (behind ds) ≤ 200 = omega arith in
    rw (le-leb 1 (length (behind ds)) (long_enough ds), le-leb (length (behind ds)) 200 most, on) refl

behind_is_ascii : (ds : List ℕ) → AllByRecursion (λ b. b < 128) ds → IsAscii (behind ds)
behind_is_ascii ds on = IsAscii-from_all (behind ds) (All-from_recursion (λ b. b < 128) (behind ds) (omega arith, (omega arith, (omega arith, (omega arith, (omega arith, on))))))

behind_is_task : (ds : List ℕ) → AllByRecursion (λ b. b < 128) ds → length ds ≤ 5 → is_task_id (behind ds) ≡ true
behind_is_task ds on few =
    let short : length (behind ds) ≤ 10 = short_enough ds few in
    let most : length (behind ds) ≤ 255 = omega arith in
    rw (le-leb 1 (length (behind ds)) (long_enough ds), le-leb (length (behind ds)) 255 most, is_utf8-from_IsUtf8 (behind ds) (IsUtf8-from_ascii (behind ds) (behind_is_ascii ds on))) refl

pub named_name : (block : ℕ) → block < 50000 → is_name (name_of block) ≡ true
named_name block few = let d = digits_of block few in behind_is_name (decimal block) (name_bytes (decimal block) d.0) d.1

pub named_task : (block : ℕ) → block < 50000 → is_task_id (name_of block) ≡ true
named_task block few = let d = digits_of block few in behind_is_task (decimal block) (small_bytes (decimal block) d.0) d.1

pub named_submitted : (block : ℕ) → block < 50000 → is_submit_text (name_of block) ≡ true
named_submitted block few = let d = digits_of block few in behind_is_submitted (decimal block) (submit_bytes (decimal block) d.0) d.1

pub load_is_name : is_name (codes "load") ≡ true
load_is_name = refl
