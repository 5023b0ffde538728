-- The numbers of parts.
use Rattle.std.proofs.Common.{◌≡◌, ℕ, ◌^◌, ◌<◌, ◌≤◌, ◌==◌, List, [], ◌∷◌, Option, Some, None, true, false, Bool, cond, refl, sym, ap, ◌∙◌, subst, arith}
use Rattle.std.specs.Prelude.{decimal}
use Rattle.std.specs.Str.{is_utf8}
use Rattle.std.specs.Str.Parse.{digits_value}
use Rattle.std.proofs.lemmas.Bool.{and_parts, and_from, le-leb, leb-true, ne_eqb, cond-true, cond-false}
use Rattle.std.proofs.lemmas.Option.{cond_some}
use Rattle.std.proofs.lemmas.Fmt.{decimal_is_IsNumeral, IsAscii-decimal}
use Rattle.std.proofs.lemmas.Slice.Eq.{bytes_eq-Decides}
use Rattle.std.proofs.lemmas.Str.{IsUtf8-from_ascii, is_utf8-from_IsUtf8}
use Rattle.iv_time.specs.Texts.{◌>>=◌}
use Rattle.seg_names.specs.IdTexts.{part_text, is_part_number, number_of}

-- a part's text, where it isn't empty
pub part_is : (n : ℕ) → 1 ≤ n → part_text n ≡ 95 ∷ decimal n
part_is n h = let test : (n == 0) ≡ false = ne_eqb _ _ (λ e. omega (arith, e)) in cond-false _ [] (95 ∷ decimal n) test

-- what the test of a part's number says
pub record IsNumber (n : ℕ) (digits : List ℕ) : Type 0 where
  pub low : 1 ≤ n
  pub high : n < 2 ^ 32
  pub same : digits ≡ decimal n

pub number_is : (n : ℕ) (digits : List ℕ) → is_part_number n digits ≡ true → IsNumber n digits
number_is n digits h =
    let outer = and_parts _ _ h in
    let inner = and_parts _ _ outer.0 in
    let most : n ≤ 4294967295 = leb-true _ _ inner.1 in
    record { low = leb-true _ _ inner.0; high = omega arith; same = sym ((bytes_eq-Decides (decimal n) digits).0 outer.1) }

pub number_passes : (n : ℕ) (digits : List ℕ) → IsNumber n digits → is_part_number n digits ≡ true
number_passes n digits h =
    let most : n ≤ 4294967295 = omega (arith, h.high) in
    and_from _ _ (and_from _ _ (le-leb _ _ h.low) (le-leb _ _ most)) ((bytes_eq-Decides (decimal n) digits).1 (sym h.same))

pub number_takes : (digits : List ℕ) (n : ℕ) → number_of digits ≡ Some n → is_part_number n digits ≡ true
unfolding number_of
number_takes digits n e =
    let g = cond_some _ (digits_value 10 digits) n e in
    subst (λ (v : ℕ). is_part_number v digits ≡ true) g.1 g.0

pub number_again : (digits : List ℕ) (n : ℕ) → is_part_number n digits ≡ true → number_of digits ≡ Some n
unfolding number_of
number_again digits n h =
    let is = number_is n digits h in
    let value : digits_value 10 digits ≡ n = ap (digits_value 10) is.same ∙ (decimal_is_IsNumeral n (omega (arith, is.high))).1 in
    let test : is_part_number (digits_value 10 digits) digits ≡ true = rw value h in
    cond-true _ _ None test ∙ ap Some value

same_options : {A : Type 0} (o p : Option A) → ((x : A) → o ≡ Some x → p ≡ Some x) → ((x : A) → p ≡ Some x → o ≡ Some x) → o ≡ p
same_options (Some x) p there back = sym (there x refl)
same_options None (Some y) there back = back y refl
same_options None None there back = refl

tested_some : {A : Type 0} (o : Option A) (test : A → Bool) (y : A) → (o >>= λ x. cond (test x) (Some x) None) ≡ Some y → (o ≡ Some y) × (test y ≡ true)
tested_some (Some x) test y e = let g = cond_some (test x) x y e in (ap Some g.1, subst (λ z. test z ≡ true) g.1 g.0)
tested_some None test y e = absurd cc

-- a reader that reads each number as it is written, with the test after it
pub number_by : (digits : List ℕ) (r : Option ℕ) → ((n : ℕ) → n < 2 ^ 32 → digits ≡ decimal n → r ≡ Some n) → number_of digits ≡ (r >>= λ n. cond (is_part_number n digits) (Some n) None)
number_by digits r h = same_options (number_of digits) (r >>= λ n. cond (is_part_number n digits) (Some n) None) there back
  where
    there : (n : ℕ) → number_of digits ≡ Some n → (r >>= λ n. cond (is_part_number n digits) (Some n) None) ≡ Some n
    there n e =
        let test = number_takes digits n e in
        let is = number_is n digits test in
        rw (h n is.high is.same, test) refl

    back : (n : ℕ) → (r >>= λ n. cond (is_part_number n digits) (Some n) None) ≡ Some n → number_of digits ≡ Some n
    back n e = number_again digits n (tested_some r (λ n. is_part_number n digits) n e).1

-- the digits of a number are UTF-8
pub number_utf8 : (n : ℕ) (digits : List ℕ) → n < 2 ^ 32 → digits ≡ decimal n → is_utf8 digits ≡ true
number_utf8 n digits small e = rw e (is_utf8-from_IsUtf8 (decimal n) (IsUtf8-from_ascii (decimal n) (IsAscii-decimal n (omega arith))))
