-- A field that was put is read back, whatever follows it.
use Rattle.std.proofs.Common.{◌≡◌, ℕ, ◌^◌, ◌<◌, false, List, [], ◌∷◌, ◌++◌, length, Some, refl, arith, nat_lt}
use Rattle.std.specs.Int.{Width, w16, w32, w64, byte_len, from_be_bytes, to_be_bytes, cast_signed, cast_unsigned}
use Rattle.std.specs.Int.RustNames.{FitsSigned}
use Rattle.std.proofs.lemmas.Int.{ints, to_z-of_z}
use Rattle.std.proofs.lemmas.Bool.{le-ltb}
use Rattle.std.proofs.lemmas.List.{take_at, drop_at, length-append}
use Rattle.std.proofs.lemmas.Nat.{from_be_bytes-to_be_bytes_2, from_be_bytes-to_be_bytes_4, from_be_bytes-to_be_bytes_8}
use Rattle.wire_fields.specs.Fields.{IsReadBack, byte_at, number_at, signed_at, signed_field, text_at, text_field}

number_again : (w : Width) (n : ℕ) (rest : List ℕ) → length (to_be_bytes w n) ≡ byte_len w → from_be_bytes w (to_be_bytes w n) ≡ n → number_at w (to_be_bytes w n ++ rest) ≡ Some (n, rest)
number_again w n rest len back =
    let long : nat_lt (length (to_be_bytes w n ++ rest)) (byte_len w) ≡ false = le-ltb _ _ (omega (arith, length-append (to_be_bytes w n) rest, len)) in
    rw (long, take_at (to_be_bytes w n) rest (byte_len w) len, drop_at (to_be_bytes w n) rest (byte_len w) len, back) refl

pub byte_again : IsReadBack (λ n. n < 2 ^ 8) (λ n. n ∷ []) byte_at
unfolding byte_at
byte_again n rest lt = refl

pub again16 : IsReadBack (λ n. n < 2 ^ 16) (to_be_bytes w16) (number_at w16)
again16 n rest lt = number_again w16 n rest refl (from_be_bytes-to_be_bytes_2 n lt)

pub again32 : IsReadBack (λ n. n < 2 ^ 32) (to_be_bytes w32) (number_at w32)
again32 n rest lt = number_again w32 n rest refl (from_be_bytes-to_be_bytes_4 n lt)

pub again64 : IsReadBack (λ n. n < 2 ^ 64) (to_be_bytes w64) (number_at w64)
again64 n rest lt = number_again w64 n rest refl (from_be_bytes-to_be_bytes_8 n lt)

pub signed_again : IsReadBack (FitsSigned w64) signed_field signed_at
unfolding signed_at
signed_again z rest fits =
    let back : cast_signed w64 (cast_unsigned w64 z) ≡ z = to_z-of_z w64 z fits in
    let small : cast_unsigned w64 z < 2 ^ 64 = omega (arith, ints) in
    rw (again64 (cast_unsigned w64 z) rest small, back) refl

pub text_again : IsReadBack (λ text. length text < 2 ^ 8) text_field text_at
unfolding text_at byte_at
text_again text rest _ =
    let long : nat_lt (length (text ++ rest)) (length text) ≡ false = le-ltb _ _ (omega (arith, length-append text rest)) in
    rw (long, take_at text rest (length text) refl, drop_at text rest (length text) refl) refl
