-- A sequence's name tells its source, group and index, and a replica's id also its number.
use Rattle.std.proofs.Common.{◌≡◌, ℕ, ◌<◌, ◌^◌, true, false, ◌==◌, ◌&&◌, List, [], ◌∷◌, ◌++◌, refl, sym, ◌∙◌, arith, length, nat_le}
use Rattle.std.specs.Prelude.{decimal}
use Rattle.std.specs.List.{AllByRecursion, list_all}
use Rattle.std.specs.Char.{digit_value}
use Rattle.std.specs.Str.Parse.{AllDigits}
use Rattle.std.proofs.lemmas.Bool.{and_parts, eq-eqb, false≢true, ne_eqb}
use Rattle.std.proofs.lemmas.Fmt.{decimal_injective, decimal_is_IsNumeral}
use Rattle.seg_names.specs.Names.{is_name, is_name_byte}
use Rattle.book_rows.specs.Names.{replica_name, sequence_name}
use Rattle.laws_sequences.specs.NameLaws.{ReplicaNamesTell, SequenceNamesTell}

abbrev pub HasNoColon : List ℕ → Type 0
HasNoColon text = AllByRecursion (λ x. (x == 58) ≡ false) text

-- ---- texts without a colon

no_colon_byte : (x : ℕ) → is_name_byte x ≡ true → (x == 58) ≡ false
no_colon_byte x h = ne_eqb x 58 (λ e. false≢true (rw e at h))

no_colon_bytes : (text : List ℕ) → list_all is_name_byte text ≡ true → HasNoColon text
no_colon_bytes [] h = tt
no_colon_bytes (x ∷ xs) h =
    let both = and_parts (is_name_byte x) (list_all is_name_byte xs) h in
    (no_colon_byte x both.0, no_colon_bytes xs both.1)

no_colon_name : (text : List ℕ) → is_name text ≡ true → HasNoColon text
no_colon_name text h = no_colon_bytes text (and_parts (nat_le 1 (length text) && nat_le (length text) 200) (list_all is_name_byte text) h).1

no_colon_digit : (x : ℕ) → digit_value x < 10 → (x == 58) ≡ false
no_colon_digit x h = ne_eqb x 58 (λ e. too_high (rw e at h)) where
  too_high : digit_value 58 < 10 → ⊥
  too_high h = omega arith

no_colon_digits : (text : List ℕ) → AllDigits 10 text → HasNoColon text
no_colon_digits [] a = tt
no_colon_digits (x ∷ xs) a = (no_colon_digit x a.0, no_colon_digits xs a.1)

no_colon_decimal : (n : ℕ) → n < 2 ^ 64 → HasNoColon (decimal n)
no_colon_decimal n h = no_colon_digits (decimal n) ((decimal_is_IsNumeral n h).0).1

-- ---- where the first colon parts a text

first_colon : (xs ys as' bs : List ℕ) → HasNoColon xs → HasNoColon as' → xs ++ 58 ∷ ys ≡ as' ++ 58 ∷ bs → (xs ≡ as') × (ys ≡ bs)
first_colon [] ys [] bs h k e = (refl, cc)
first_colon [] ys (a ∷ as') bs h k e = let first : 58 ≡ a = cc in absurd (false≢true (sym k.0 ∙ eq-eqb a 58 (sym first)))
first_colon (x ∷ xs) ys [] bs h k e = let first : x ≡ 58 = cc in absurd (false≢true (sym h.0 ∙ eq-eqb x 58 first))
first_colon (x ∷ xs) ys (a ∷ as') bs h k e =
    let first : x ≡ a = cc in
    let rest = first_colon xs ys as' bs h.1 k.1 cc in
    (rw (first, rest.0) refl, rest.1)

pub sequence_names_tell : SequenceNamesTell
sequence_names_tell s t g h i j a b e =
    let rest : s ++ 58 ∷ (decimal g ++ 58 ∷ decimal i) ≡ t ++ 58 ∷ (decimal h ++ 58 ∷ decimal j) = cc in
    let one = first_colon s (decimal g ++ 58 ∷ decimal i) t (decimal h ++ 58 ∷ decimal j) (no_colon_name s a.source_is) (no_colon_name t b.source_is) rest in
    let two = first_colon (decimal g) (decimal i) (decimal h) (decimal j) (no_colon_decimal g a.group_fits) (no_colon_decimal h b.group_fits) one.1 in
    (one.0, decimal_injective g h a.group_fits b.group_fits two.0, decimal_injective i j a.index_fits b.index_fits two.1)

-- ---- where the last colon parts a text

-- a text without a colon isn't one that has one
has_colon : (as' bs ys : List ℕ) → HasNoColon ys → ys ≡ as' ++ 58 ∷ bs → ⊥
has_colon [] bs [] h e = cc
has_colon [] bs (y ∷ ys) h e = let first : y ≡ 58 = cc in absurd (false≢true (sym h.0 ∙ eq-eqb y 58 first))
has_colon (a ∷ as') bs [] h e = cc
has_colon (a ∷ as') bs (y ∷ ys) h e = has_colon as' bs ys h.1 cc

last_colon : (xs ys as' bs : List ℕ) → HasNoColon ys → HasNoColon bs → xs ++ 58 ∷ ys ≡ as' ++ 58 ∷ bs → (xs ≡ as') × (ys ≡ bs)
last_colon [] ys [] bs h k e = (refl, cc)
last_colon [] ys (a ∷ as') bs h k e = let rest : ys ≡ as' ++ 58 ∷ bs = cc in absurd (has_colon as' bs ys h rest)
last_colon (x ∷ xs) ys [] bs h k e = let rest : bs ≡ xs ++ 58 ∷ ys = cc in absurd (has_colon xs ys bs k rest)
last_colon (x ∷ xs) ys (a ∷ as') bs h k e =
    let first : x ≡ a = cc in
    let rest = last_colon xs ys as' bs h k cc in
    (rw (first, rest.0) refl, rest.1)

-- a replica's id tells its sequence's name and its number
pub replica_name_tells : (a b : List ℕ) (k l : ℕ) → k < 2 ^ 64 → l < 2 ^ 64 → replica_name a k ≡ replica_name b l → (a ≡ b) × (k ≡ l)
replica_name_tells a b k l kb lb e =
    let both = last_colon a (decimal k) b (decimal l) (no_colon_decimal k kb) (no_colon_decimal l lb) e in
    (both.0, decimal_injective k l kb lb both.1)

pub replica_names_tell : ReplicaNamesTell
replica_names_tell s t g h i j k l a b kb lb e =
    let both = replica_name_tells (sequence_name s g i) (sequence_name t h j) k l kb lb e in
    let key = sequence_names_tell s t g h i j a b both.0 in
    (key.0, key.1, key.2, both.1)
