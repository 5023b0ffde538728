-- What words are as numbers.
use Rattle.std.proofs.Common.{◌==◌, ◌∙◌, ◌∷◌, ◌≡◌, ◌<◌, ◌^◌, None, Option, Some, [], ap, arith, cond, false, refl, subst, sym, true, zero, suc, ℕ}
use Rattle.std.specs.Prelude.{decimal, get_or, option_and_then, option_map}
use Rattle.std.specs.Str.Parse.{digits_value}
use Rattle.std.proofs.lemmas.Bool.{and_from, and_parts, cond-true, ltb-true, lt-ltb, ne_eqb}
use Rattle.std.proofs.lemmas.Fmt.{decimal_digit, decimal_is_IsNumeral, first_decimal}
use Rattle.std.proofs.lemmas.Option.{cond_some}
use Rattle.std.proofs.lemmas.Slice.Eq.{bytes_eq-Decides}
use Rattle.clap.specs.Words.{Text}
use Rattle.program_words.specs.Forms.{Form, load, load_with}
use Rattle.program_words.specs.Numbers.{blocks_in, blocks_of, is_number, number_of}

-- the word is the number in decimal, and the number has 64 bits
pub record IsNumber (n : ℕ) (word : Text) : Type 0 where
  pub small : n < 2 ^ 64
  pub word_is : word ≡ decimal n

number_is : (n : ℕ) (word : Text) → is_number n word ≡ true → IsNumber n word
number_is n word on =
    let both = and_parts _ _ on in
    let below : n < 18446744073709551616 = ltb-true _ _ both.0 in
    record { small = omega (arith, below); word_is = sym ((bytes_eq-Decides (decimal n) word).0 both.1) }

pub number_read : (word : Text) (n : ℕ) → number_of word ≡ Some n → IsNumber n word
unfolding number_of
number_read word n is =
    let found = cond_some _ (digits_value 10 word) n is in
    number_is n word (subst (λ (v : ℕ). is_number v word ≡ true) found.1 found.0)

number_test : (word : Text) (n : ℕ) → IsNumber n word → is_number n word ≡ true
number_test word n is =
    let below : n < 18446744073709551616 = omega (arith, is.small) in
    and_from _ _ (lt-ltb _ _ below) ((bytes_eq-Decides (decimal n) word).1 (sym is.word_is))

number_again : (word : Text) (n : ℕ) → IsNumber n word → number_of word ≡ Some n
unfolding number_of
number_again word n is =
    let value : digits_value 10 word ≡ n = ap (digits_value 10) is.word_is ∙ (decimal_is_IsNumeral n is.small).1 in
    let test : is_number (digits_value 10 word) word ≡ true = rw value (number_test word n is) in
    cond-true _ _ None test ∙ ap Some value

same : (o p : Option ℕ) → ((n : ℕ) → o ≡ Some n → p ≡ Some n) → ((n : ℕ) → p ≡ Some n → o ≡ Some n) → o ≡ p
same (Some n) p there back = sym (there n refl)
same None (Some n) there back = back n refl
same None None there back = refl

tested : (word : Text) (o : Option ℕ) (n : ℕ) → option_and_then (λ m. cond (is_number m word) (Some m) None) o ≡ Some n → (o ≡ Some n) × (is_number n word ≡ true)
tested word None n is = absurd cc
tested word (Some m) n is =
    let found = cond_some (is_number m word) m n is in
    (ap Some found.1, subst (λ (v : ℕ). is_number v word ≡ true) found.1 found.0)

-- a reader that reads each number as it is written, with the test after it
pub number_by : (word : Text) (r : Option ℕ) → ((n : ℕ) → n < 2 ^ 64 → word ≡ decimal n → r ≡ Some n) → number_of word ≡ option_and_then (λ m. cond (is_number m word) (Some m) None) r
number_by word r reads = same (number_of word) (option_and_then (λ m. cond (is_number m word) (Some m) None) r) there back
  where
    there : (n : ℕ) → number_of word ≡ Some n → option_and_then (λ m. cond (is_number m word) (Some m) None) r ≡ Some n
    there n is =
        let number = number_read word n is in
        rw (reads n number.small number.word_is, number_test word n number) refl

    back : (n : ℕ) → option_and_then (λ m. cond (is_number m word) (Some m) None) r ≡ Some n → number_of word ≡ Some n
    back n is = number_again word n (number_is n word (tested word r n is).1)

-- ---- the first byte of a number

-- a word that isn't empty, and doesn't begin with `-`
pub record IsPlainWord (word : Text) : Type 0 where
  pub first : ℕ
  pub rest : Text
  pub word_is : word ≡ first ∷ rest
  pub plain : (first == 45) ≡ false

plain_by : (word : Text) → 45 < get_or word 0 0 → IsPlainWord word
plain_by [] high = absurd (omega (arith, high))
plain_by (x ∷ xs) high = record { first = x; rest = xs; word_is = refl; plain = ne_eqb x 45 (λ e. omega (arith, high, e)) }

plain_decimal : (n : ℕ) → n < 2 ^ 64 → IsPlainWord (decimal n)
plain_decimal zero small = record { first = 48; rest = []; word_is = decimal_digit 0 (omega arith); plain = refl }
plain_decimal (suc n) small = plain_by (decimal (suc n)) (let high = first_decimal (suc n) (omega arith) small in omega (arith, high))

pub plain_number : (word : Text) (n : ℕ) → number_of word ≡ Some n → IsPlainWord word
plain_number word n is =
    let number = number_read word n is in
    subst (λ (w : Text). IsPlainWord w) (sym number.word_is) (plain_decimal n number.small)

-- the words of a load are two numbers
pub record AreNumbers (number blocks : Text) : Type 0 where
  pub number_is : IsPlainWord number
  pub blocks_is : IsPlainWord blocks

plain_blocks : (word : Text) (o : Option ℕ) (b : ℕ) → number_of word ≡ o → option_and_then blocks_in o ≡ Some b → IsPlainWord word
plain_blocks word None b read is = absurd cc
plain_blocks word (Some n) b read is = plain_number word n read

both_plain : (number blocks store : Text) (form : Form) (o p : Option ℕ) → number_of number ≡ o → blocks_of blocks ≡ p → option_and_then (λ n. option_map (λ b. load n b store) p) o ≡ Some form → AreNumbers number blocks
both_plain number blocks store form None p read all is = absurd cc
both_plain number blocks store form (Some n) None read all is = absurd cc
both_plain number blocks store form (Some n) (Some b) read all is = record { number_is = plain_number number n read; blocks_is = plain_blocks blocks (number_of blocks) b refl all }

pub load_numbers : (number blocks store : Text) (form : Form) → load_with number blocks store ≡ Some form → AreNumbers number blocks
load_numbers number blocks store form is = both_plain number blocks store form (number_of number) (blocks_of blocks) refl refl is
