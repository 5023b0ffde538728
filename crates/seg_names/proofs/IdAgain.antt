-- What is written of an id is read as that id.
use Rattle.std.proofs.Common.{◌≡◌, ℕ, zero, suc, ◌+◌, ◌-◌, ◌^◌, ◌<◌, ◌≤◌, ◌==◌, true, false, not, List, [], ◌∷◌, ◌++◌, length, get_or, take, Some, ℤ, refl, ap, subst, ◌∙◌, append_assoc, append-nil, length-append, arith, nat_lt}
use Rattle.std.specs.Prelude.{decimal, nat_le, int_lt}
use Rattle.std.proofs.lemmas.Bool.{and_parts, and_from, le-leb, lt-ltb, ltb-true, eq-eqb, ne_eqb, and_right}
use Rattle.std.proofs.lemmas.List.{take_at, drop_at, get_or_at, get_or-append_right}
use Rattle.std.proofs.lemmas.List.Sums.{suffix_len_is}
use Rattle.std.proofs.lemmas.Fmt.{decimal_is_IsNumeral}
use Rattle.std.proofs.lemmas.Str.Parse.{digit_at}
use Rattle.iv_span.specs.Extent.{Extent}
use Rattle.iv_time.specs.Civil.{instant_text}
use Rattle.iv_time.specs.Range.{is_instant}
use Rattle.iv_time.proofs.RoundTrip.{reads_back}
use Rattle.seg_names.specs.Names.{is_name}
use Rattle.seg_names.specs.declared.seg_id.SegId.{SegId}
use Rattle.seg_names.specs.IdTexts.{instant_field, part_text, id_text, is_seg_id, number_of, number_after, after_underscore, numbered_part, ends_with_z, part_of, full_instant, instant_after, last_instant, parts_of, id_of}
use Rattle.seg_names.proofs.Instants.{full_at, instant_in}
use Rattle.seg_names.proofs.Numbers.{IsNumber, part_is, number_passes, number_again}

-- ---- an instant

last_at : (front text : List ℕ) (ms : ℤ) → length text ≡ 24 → full_instant text ≡ Some ms → last_instant (front ++ 95 ∷ text) ≡ Some (front, ms)
unfolding last_instant instant_after
last_at front text ms len full =
    let whole : length (front ++ 95 ∷ text) ≡ length front + 25 = omega (arith, length-append front (95 ∷ text), len) in
    let long : nat_le 25 (length (front ++ 95 ∷ text)) ≡ true = le-leb _ _ (omega (arith, whole)) in
    let at : length (front ++ 95 ∷ text) - 25 ≡ length front = omega (arith, whole) in
    rw (long, at, take_at front (95 ∷ text) (length front) refl, drop_at front (95 ∷ text) (length front) refl, full) refl

last_again : (front : List ℕ) (ms : ℤ) → is_instant ms ≡ true → last_instant (front ++ instant_field ms) ≡ Some (front, ms)
unfolding instant_field
last_again front ms h = last_at front (instant_text ms) ms refl (full_at (instant_text ms) ms (reads_back ms (instant_in ms h)) refl)

-- ---- a part

ends_last : (text : List ℕ) → ends_with_z (text ++ 90 ∷ []) ≡ true
ends_last text =
    let whole : length (text ++ 90 ∷ []) ≡ length text + 1 = omega (arith, length-append text (90 ∷ [])) in
    let read : get_or (text ++ 90 ∷ []) (length (text ++ 90 ∷ []) - 1) 0 ≡ 90 = get_or_at text 90 [] 0 _ (omega (arith, whole)) in
    and_from _ _ (lt-ltb _ _ (omega (arith, whole))) (eq-eqb _ _ read)

ends_again : (front : List ℕ) (ms : ℤ) → ends_with_z (front ++ instant_field ms) ≡ true
unfolding instant_field
ends_again front ms =
    subst (λ (text : List ℕ). ends_with_z text ≡ true) (append_assoc front (take 24 (instant_field ms)) (90 ∷ [])) (ends_last (front ++ take 24 (instant_field ms)))

-- digits, with none of the bytes that the reading looks for
record AreDigits (digits : List ℕ) : Type 0 where
  pub some : 0 < length digits
  pub low : (k : ℕ) → k < length digits → 48 ≤ get_or digits k 0
  pub high : (k : ℕ) → k < length digits → get_or digits k 0 < 58

digits_of_number : (n : ℕ) → n < 2 ^ 32 → AreDigits (decimal n)
digits_of_number n small =
    let is = decimal_is_IsNumeral n (omega arith) in
    record { some = is.0.0; low = λ k h. (digit_at (decimal n) k is.0.1 h).0; high = λ k h. omega (arith, (digit_at (decimal n) k is.0.1 h).1) }

at_digit : (front digits : List ℕ) (k : ℕ) → length front + 1 ≤ k → get_or (front ++ 95 ∷ digits) k 0 ≡ get_or digits (k - (length front + 1)) 0
at_digit front digits k le =
    let there = append_assoc front (95 ∷ []) digits in
    let len : length (front ++ 95 ∷ []) ≡ length front + 1 = omega (arith, length-append front (95 ∷ [])) in
    rw (← there) (get_or-append_right (front ++ 95 ∷ []) digits (length front + 1) k 0 len le)

after_at : (front digits : List ℕ) → AreDigits digits → after_underscore (front ++ 95 ∷ digits) ≡ length digits
after_at front digits are =
    let whole : length (front ++ 95 ∷ digits) ≡ length front + 1 + length digits = omega (arith, length-append front (95 ∷ digits)) in
    let is = suffix_len_is (λ (b : ℕ). not (b == 95)) (front ++ 95 ∷ digits) (length front + 1) 0 (omega (arith, whole)) passes stops in
    is ∙ omega (arith, whole)
  where
    passes : (k : ℕ) → length front + 1 ≤ k → k < length (front ++ 95 ∷ digits) → not (get_or (front ++ 95 ∷ digits) k 0 == 95) ≡ true
    passes k le lt =
        let at = at_digit front digits k le in
        let within : k - (length front + 1) < length digits = omega (arith, length-append front (95 ∷ digits)) in
        let high = are.high (k - (length front + 1)) within in
        let test : (get_or (front ++ 95 ∷ digits) k 0 == 95) ≡ false = ne_eqb _ _ (λ e. omega (arith, at, high, e)) in
        ap not test

    stops : 0 < length front + 1 → not (get_or (front ++ 95 ∷ digits) (length front + 1 - 1) 0 == 95) ≡ false
    stops _ =
        let read : get_or (front ++ 95 ∷ digits) (length front + 1 - 1) 0 ≡ 95 = get_or_at front 95 digits 0 (length front + 1 - 1) (omega arith) in
        ap not (eq-eqb _ _ read)

no_z : (front digits : List ℕ) → AreDigits digits → ends_with_z (front ++ 95 ∷ digits) ≡ false
no_z front digits are =
    let whole : length (front ++ 95 ∷ digits) ≡ length front + 1 + length digits = omega (arith, length-append front (95 ∷ digits)) in
    let last = length (front ++ 95 ∷ digits) - 1 in
    let at = at_digit front digits last (omega (arith, whole, are.some)) in
    let high = are.high (last - (length front + 1)) (omega (arith, whole, are.some)) in
    let test : (get_or (front ++ 95 ∷ digits) last 0 == 90) ≡ false = ne_eqb _ _ (λ e. omega (arith, at, high, e)) in
    and_right _ _ test

numbered_at : (front digits : List ℕ) (n : ℕ) → AreDigits digits → number_of digits ≡ Some n → numbered_part (front ++ 95 ∷ digits) ≡ Some (front, n)
unfolding numbered_part number_after
numbered_at front digits n are e =
    let whole : length (front ++ 95 ∷ digits) ≡ length front + 1 + length digits = omega (arith, length-append front (95 ∷ digits)) in
    let count = after_at front digits are in
    let within : nat_lt (length digits) (length (front ++ 95 ∷ digits)) ≡ true = lt-ltb _ _ (omega (arith, whole)) in
    let at : length (front ++ 95 ∷ digits) - (length digits + 1) ≡ length front = omega (arith, whole) in
    simp (count, within, at, take_at front (95 ∷ digits) (length front) refl, drop_at front (95 ∷ digits) (length front) refl, e) refl

part_at : (front digits : List ℕ) (n : ℕ) → AreDigits digits → number_of digits ≡ Some n → part_of (front ++ 95 ∷ digits) ≡ Some (front, n)
unfolding part_of
part_at front digits n are e = rw (no_z front digits are) (numbered_at front digits n are e)

part_again : (front : List ℕ) (part : ℕ) → ends_with_z front ≡ true → part < 2 ^ 32 → part_of (front ++ part_text part) ≡ Some (front, part)
unfolding part_of
part_again front zero ends small = rw (append-nil front, ends) refl
part_again front (suc n) ends small =
    let are = digits_of_number (suc n) small in
    let is : IsNumber (suc n) (decimal (suc n)) = record { low = omega arith; high = small; same = refl } in
    let e = number_again (decimal (suc n)) (suc n) (number_passes (suc n) (decimal (suc n)) is) in
    let text = part_is (suc n) (omega arith) in
    rw text (part_at front (decimal (suc n)) (suc n) are e)

-- ---- an id

parts_at : (source b c d text : List ℕ) (start end version : ℤ) (part : ℕ) → part_of text ≡ Some (d, part) → last_instant d ≡ Some (c, version) → last_instant c ≡ Some (b, end) → last_instant b ≡ Some (source, start) → parts_of text ≡ Some (source, start, end, version, part)
unfolding parts_of
parts_at source b c d text start end version part p v e s = rw (p, v, e, s) refl

id_at : (text source : List ℕ) (span : Extent) (version : ℤ) (part : ℕ) → parts_of text ≡ Some (source, span.start, span.end, version, part) → int_lt span.start span.end ≡ true → is_name source ≡ true → id_of text ≡ Some (record { source = source; span = span; version = version; part = part })
unfolding id_of
id_at text source span version part e order name = rw (e, order, name) refl

pub id_again : (id : SegId) → is_seg_id id ≡ true → id_of (id_text id) ≡ Some id
id_again id h =
    let outer = and_parts _ _ h in
    let middle = and_parts _ _ outer.0 in
    let inner = and_parts _ _ middle.0 in
    let instants = and_parts _ _ middle.1 in
    let ends = and_parts _ _ instants.0 in
    let small : id.part < 2 ^ 32 = ltb-true _ _ outer.1 in
    let b = id.source ++ instant_field id.span.start in
    let c = b ++ instant_field id.span.end in
    let d = c ++ instant_field id.version in
    let parts = parts_at id.source b c d (id_text id) id.span.start id.span.end id.version id.part
    (part_again d id.part (ends_again c id.version) small) (last_again c id.version instants.1) (last_again b id.span.end ends.1) (last_again id.source id.span.start ends.0) in
    id_at (id_text id) id.source id.span id.version id.part parts inner.1 inner.0
