-- The texts of instants, spans and ids are ASCII, and so UTF-8.
use Rattle.std.proofs.Common.{◌≡◌, ℕ, ◌+◌, ◌/◌, ◌%◌, ◌<◌, ◌^◌, List, [], ◌∷◌, ◌++◌, Bool, true, false, cond, IsTrue, arith, ℤ, pos, ◌+ℤ◌, ◌≤ℤ◌}
use Rattle.std.specs.Prelude.{int_le, unsigned_abs, nat_eq}
use Rattle.std.specs.List.{AllByRecursion, list_all}
use Rattle.std.specs.Str.{IsUtf8}
use Rattle.std.specs.Fmt.{decimal}
use Rattle.std.proofs.lemmas.Bool.{and_parts, ltb-true}
use Rattle.std.proofs.lemmas.Bool.Decides.{nat_tests}
use Rattle.std.proofs.lemmas.Int.{ints}
use Rattle.std.proofs.lemmas.List.Elements.{All-from_recursion}
use Rattle.std.proofs.lemmas.Fmt.{IsAscii-decimal}
use Rattle.std.proofs.lemmas.Str.{IsUtf8-from_ascii, IsUtf8-append, IsUtf8-nil}
use Rattle.std.proofs.lemmas.Str.Ascii.{IsAscii-from_all}
use Rattle.jiff_core.proofs.CalendarLemmas.{days_in_month_bounds}
use Rattle.iv_span.specs.Extent.{Extent}
use Rattle.iv_time.specs.Range.{IsInstant, is_instant}
use Rattle.seg_names.specs.Names.{is_name, is_name_byte}
use Rattle.seg_names.specs.declared.seg_id.SegId.{SegId}
use Rattle.iv_time.specs.Civil.{civil_of, text_from, instant_text}
use Rattle.iv_time.proofs.Walks.{civil_is}
use Rattle.seg_names.specs.IdTexts.{instant_field, is_seg_id, part_text, id_text}
use Rattle.reply_text.specs.Objects.{span_text}
use Rattle.book_rows.specs.Fits.{span_fits}

abbrev AreSmall : List ℕ → Type 0
AreSmall = AllByRecursion (λ x. x < 128)

utf8_of : (text : List ℕ) → AreSmall text → IsUtf8 text
utf8_of text h = IsUtf8-from_ascii text (IsAscii-from_all text (All-from_recursion (λ x. x < 128) text h))

le_from : (a b : ℤ) → IsTrue (int_le a b) → a ≤ℤ b
le_from a b h = grind (arith, ints)

-- what the test says
pub instant_in : (ms : ℤ) → is_instant ms ≡ true → IsInstant ms
instant_in ms h = let both = and_parts _ _ h in (le_from _ _ both.0, le_from _ _ both.1)

two : (n : ℕ) → n < 100 → (48 + n / 10 < 128) × (48 + n % 10 < 128)
two n h = (omega arith, omega arith)

text_small : (n : ℕ) → n < 315569520000000 → AreSmall (text_from n)
text_small n h =
    let days : n / 86400000 < 3652425 = omega arith in
    let w = civil_is (n / 86400000) days in
    let day = civil_of (n / 86400000) in
    let clock = n % 86400000 in
    let year_in : day.year < 10000 = w.year_in in
    let century = two (day.year / 100) (omega (arith, year_in)) in
    let year = two (day.year % 100) (omega arith) in
    let month = two day.month (omega (arith, w.civil.1.1)) in
    let bounds = days_in_month_bounds (pos day.year) day.month in
    let of_month = two day.day (omega (arith, w.civil.2.1, bounds.0)) in
    let hour = two (clock / 3600000) (omega arith) in
    let minute = two (clock / 60000 % 60) (omega arith) in
    let second = two (clock / 1000 % 60) (omega arith) in
    let tenth : 48 + clock % 1000 / 100 < 128 = omega arith in
    let rest = two (clock % 100) (omega arith) in (
      century.0,
      (
        century.1,
        (
          year.0,
          (
            year.1,
            (
              omega arith,
              (
                month.0,
                (
                  month.1,
                  (
                    omega arith,
                    (
                      of_month.0,
                      (
                        of_month.1,
                        (
                          omega arith,
                          (hour.0, (hour.1, (omega arith, (minute.0, (minute.1, (omega arith, (second.0, (second.1, (omega arith, (tenth, (rest.0, (rest.1, (omega arith, tt))))))))))))),
                        ),
                      ),
                    ),
                  ),
                ),
              ),
            ),
          ),
        ),
      ),
    )

within : (ms : ℤ) → IsInstant ms → unsigned_abs (ms +ℤ pos 62167219200000) < 315569520000000
within ms h = omega (arith, ints, h.0, h.1)

pub instant_utf8 : (ms : ℤ) → is_instant ms ≡ true → IsUtf8 (instant_text ms)
instant_utf8 ms h = utf8_of (instant_text ms) (text_small _ (within ms (instant_in ms h)))

one_utf8 : (x : ℕ) → x < 128 → IsUtf8 (x ∷ [])
one_utf8 x h = utf8_of (x ∷ []) (h, tt)

then_utf8 : (x : ℕ) (text : List ℕ) → x < 128 → IsUtf8 text → IsUtf8 (x ∷ text)
then_utf8 x text h rest = IsUtf8-append (x ∷ []) text (one_utf8 x h) rest

pub span_utf8 : (span : Extent) → span_fits span ≡ true → IsUtf8 (span_text span)
span_utf8 span h =
    let both = and_parts _ _ h in
    IsUtf8-append (instant_text span.start) (47 ∷ instant_text span.end) (instant_utf8 span.start both.0) (then_utf8 47 (instant_text span.end) (omega arith) (instant_utf8 span.end both.1))

name_byte_small : (x : ℕ) → is_name_byte x ≡ true → x < 128
name_byte_small x h = grind (arith, nat_tests)

all_small : (text : List ℕ) → list_all is_name_byte text ≡ true → AreSmall text
all_small [] h = tt
all_small (x ∷ xs) h = let p = and_parts (is_name_byte x) (list_all is_name_byte xs) h in (name_byte_small x p.0, all_small xs p.1)

name_utf8 : (text : List ℕ) → is_name text ≡ true → IsUtf8 text
name_utf8 text h = utf8_of text (all_small text (and_parts _ (list_all is_name_byte text) h).1)

part_by : (b : Bool) (part : ℕ) → part < 2 ^ 64 → IsUtf8 (cond b [] (95 ∷ decimal part))
part_by true part h = IsUtf8-nil
part_by false part h = then_utf8 95 (decimal part) (omega arith) (IsUtf8-from_ascii (decimal part) (IsAscii-decimal part h))

field_utf8 : (ms : ℤ) → is_instant ms ≡ true → IsUtf8 (instant_field ms)
unfolding instant_field
field_utf8 ms h = then_utf8 95 (instant_text ms) (omega arith) (instant_utf8 ms h)

pub id_utf8 : (id : SegId) → is_seg_id id ≡ true → IsUtf8 (id_text id)
id_utf8 id h =
    let outer = and_parts _ _ h in
    let middle = and_parts _ _ outer.0 in
    let inner = and_parts _ _ middle.0 in
    let instants = and_parts _ _ middle.1 in
    let ends = and_parts _ _ instants.0 in
    let small : id.part < 2 ^ 32 = ltb-true _ _ outer.1 in
    let part = part_by (nat_eq id.part 0) id.part (omega (arith, small)) in
    let start = IsUtf8-append id.source (instant_field id.span.start) (name_utf8 id.source inner.0) (field_utf8 id.span.start ends.0) in
    let end = IsUtf8-append (id.source ++ instant_field id.span.start) (instant_field id.span.end) start (field_utf8 id.span.end ends.1) in
    let version = IsUtf8-append (id.source ++ instant_field id.span.start ++ instant_field id.span.end) (instant_field id.version) end (field_utf8 id.version instants.1) in
    IsUtf8-append (id.source ++ instant_field id.span.start ++ instant_field id.span.end ++ instant_field id.version) (part_text id.part) version part
