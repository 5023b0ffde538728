-- Bytes from which a value is read begin with its field.
use Rattle.std.proofs.Common.{◌≡◌, ℕ, suc, ◌+◌, ◌^◌, ◌<◌, ◌≤◌, Bool, true, false, cond, List, [], ◌∷◌, ◌++◌, length, take, drop, Option, Some, None, ℤ, refl, sym, ap, ap₂, subst, ◌∙◌, arith, inl, inr, nat_lt}
use Rattle.std.specs.Int.{Width, w16, w32, w64, byte_len, from_be_bytes, to_be_bytes, cast_signed}
use Rattle.std.specs.Int.RustNames.{FitsSigned}
use Rattle.std.proofs.lemmas.Int.{ints, of_z-to_z}
use Rattle.std.proofs.lemmas.Bool.{cases_lt, ltb-false}
use Rattle.std.proofs.lemmas.List.{take-append-drop, length-take, get_or-drop, get_or-take, get_or_past}
use Rattle.std.proofs.lemmas.Option.{some_pair_parts}
use Rattle.std.proofs.lemmas.Nat.{be_bytes_2, be_bytes_4, be_bytes_8}
use Rattle.wire_fields.specs.Fields.{◌>>=◌, AreBytes, HasOneField, byte_at, bytes_at, number_at, signed_at, signed_field, text_at, text_field}

pub AreBytes-drop : (n : ℕ) (bytes : List ℕ) → AreBytes bytes → AreBytes (drop n bytes)
AreBytes-drop n bytes h i = rw get_or-drop (h (n + i))

pub AreBytes-take : (n : ℕ) (bytes : List ℕ) → AreBytes bytes → AreBytes (take n bytes)
AreBytes-take n bytes h i =
    elim (cases_lt i n) [
      | inl lt ↦ rw (get_or-take n bytes i 0 lt) (h i)
      | inr le ↦ rw (get_or_past (take n bytes) i 0 (omega (arith, length-take n bytes))) (omega arith)
    ]

pub AreBytes-append_right : (xs ys : List ℕ) → AreBytes (xs ++ ys) → AreBytes ys
AreBytes-append_right [] ys h = h
AreBytes-append_right (x ∷ xs) ys h = AreBytes-append_right xs ys (λ i. h (suc i))

pub bind_some : {A B : Type 0} (o : Option A) (f : A → Option B) (y : B) → (o >>= f) ≡ Some y → (x : A) × (o ≡ Some x) × (f x ≡ Some y)
bind_some (Some x) f y e = (x, refl, e)
bind_some None f y e = absurd cc

unless_some : {A : Type 0} (b : Bool) (x y : A) → cond b None (Some x) ≡ Some y → (b ≡ false) × (x ≡ y)
unless_some true x y e = absurd cc
unless_some false x y e = (refl, cc)

-- what is read of so many bytes, and what they are
taken : (count : ℕ) (bytes text rest : List ℕ) → bytes_at count bytes ≡ Some (text, rest) → (count ≤ length bytes) × (take count bytes ≡ text) × (drop count bytes ≡ rest)
taken count bytes text rest e =
    let g = unless_some (nat_lt (length bytes) count) (take count bytes, drop count bytes) (text, rest) e in
    (ltb-false _ _ g.0, ap (λ (p : List ℕ × List ℕ). p.0) g.1, ap (λ (p : List ℕ × List ℕ). p.1) g.1)

number_taken : (w : Width) (bytes : List ℕ) (n : ℕ) (rest : List ℕ) (most : ℕ) → ((bs : List ℕ) → length bs ≡ byte_len w → AreBytes bs → (to_be_bytes w (from_be_bytes w bs) ≡ bs) × (from_be_bytes w bs < most)) → AreBytes bytes → number_at w bytes ≡ Some (n, rest) → (bytes ≡ to_be_bytes w n ++ rest) × (n < most)
number_taken w bytes n rest most back fits e =
    let g = unless_some (nat_lt (length bytes) (byte_len w)) (from_be_bytes w (take (byte_len w) bytes), drop (byte_len w) bytes) (n, rest) e in
    let long : byte_len w ≤ length bytes = ltb-false _ _ g.0 in
    let n-is : from_be_bytes w (take (byte_len w) bytes) ≡ n = ap (λ (p : ℕ × List ℕ). p.0) g.1 in
    let rest-is : drop (byte_len w) bytes ≡ rest = ap (λ (p : ℕ × List ℕ). p.1) g.1 in
    let both = back (take (byte_len w) bytes) (omega (arith, length-take (byte_len w) bytes)) (AreBytes-take (byte_len w) bytes fits) in
    let front : to_be_bytes w n ≡ take (byte_len w) bytes = rw (← n-is) both.0 in
    (rw (front, ← rest-is) (sym (take-append-drop (byte_len w) bytes)), rw (← n-is) both.1)

below16 : (bytes : List ℕ) → AreBytes bytes → from_be_bytes w16 bytes < 2 ^ 16
below16 bytes fits = omega (arith, fits 0, fits 1)

below32 : (bytes : List ℕ) → AreBytes bytes → from_be_bytes w32 bytes < 2 ^ 32
below32 bytes fits = omega (arith, fits 0, fits 1, fits 2, fits 3)

below64 : (bytes : List ℕ) → AreBytes bytes → from_be_bytes w64 bytes < 2 ^ 64
below64 bytes fits = omega (arith, fits 0, fits 1, fits 2, fits 3, fits 4, fits 5, fits 6, fits 7)

pub byte_taken : HasOneField (λ n. n < 2 ^ 8) (λ n. n ∷ []) byte_at
unfolding byte_at
byte_taken [] n rest fits e = absurd cc
byte_taken (x ∷ xs) n rest fits e =
    let p = some_pair_parts x n xs rest e in
    (ap₂ (λ a b. a ∷ b) p.0 p.1, rw (← p.0) (fits 0))

pub taken16 : HasOneField (λ n. n < 2 ^ 16) (to_be_bytes w16) (number_at w16)
taken16 bytes n rest fits e = number_taken w16 bytes n rest (2 ^ 16) (λ bs len h. (be_bytes_2 bs _ len h refl, below16 bs h)) fits e

pub taken32 : HasOneField (λ n. n < 2 ^ 32) (to_be_bytes w32) (number_at w32)
taken32 bytes n rest fits e = number_taken w32 bytes n rest (2 ^ 32) (λ bs len h. (be_bytes_4 bs _ len h refl, below32 bs h)) fits e

pub taken64 : HasOneField (λ n. n < 2 ^ 64) (to_be_bytes w64) (number_at w64)
taken64 bytes n rest fits e = number_taken w64 bytes n rest (2 ^ 64) (λ bs len h. (be_bytes_8 bs _ len h refl, below64 bs h)) fits e

signed_back : (n : ℕ) → n < 2 ^ 64 → (to_be_bytes w64 n ≡ signed_field (cast_signed w64 n)) × FitsSigned w64 (cast_signed w64 n)
signed_back n small = (sym (ap (to_be_bytes w64) (of_z-to_z w64 n small)), omega (arith, ints))

pub signed_taken : HasOneField (FitsSigned w64) signed_field signed_at
unfolding signed_at
signed_taken bytes z rest fits e =
    let b = bind_some (number_at w64 bytes) (λ n. Some (cast_signed w64 n.0, n.1)) (z, rest) e in
    let t = taken64 bytes b.0.0 b.0.1 fits b.1 in
    let p = some_pair_parts (cast_signed w64 b.0.0) z b.0.1 rest b.2 in
    let back = signed_back b.0.0 t.1 in
    let parts : bytes ≡ signed_field (cast_signed w64 b.0.0) ++ b.0.1 = t.0 ∙ ap (λ (f : List ℕ). f ++ b.0.1) back.0 in
    subst (λ (v : ℤ × List ℕ). (bytes ≡ signed_field v.0 ++ v.1) × FitsSigned w64 v.0) (ap₂ (λ x y. (x, y)) p.0 p.1) (parts, back.1)

text_parts : (count : ℕ) (bytes text rest : List ℕ) → (count ≤ length bytes) × (take count bytes ≡ text) × (drop count bytes ≡ rest) → (count ∷ bytes ≡ text_field text ++ rest) × (length text ≡ count)
text_parts count bytes text rest h =
    let long : count ≤ length bytes = h.0 in
    let len : length (take count bytes) ≡ count = omega (arith, length-take count bytes) in
    let whole : count ∷ bytes ≡ text_field (take count bytes) ++ drop count bytes = ap₂ (λ a b. a ∷ b) (sym len) (sym (take-append-drop count bytes)) in
    subst (λ (v : List ℕ × List ℕ). (count ∷ bytes ≡ text_field v.0 ++ v.1) × (length v.0 ≡ count)) (ap₂ (λ x y. (x, y)) h.1 h.2) (whole, len)

pub text_taken : HasOneField (λ text. length text < 2 ^ 8) text_field text_at
unfolding text_at
text_taken bytes text rest fits e =
    let b = bind_some (byte_at bytes) (λ n. bytes_at n.0 n.1) (text, rest) e in
    let first = byte_taken bytes b.0.0 b.0.1 fits b.1 in
    let second = text_parts b.0.0 b.0.1 text rest (taken b.0.0 b.0.1 text rest b.2) in
    (first.0 ∙ second.0, subst (λ (n : ℕ). n < 2 ^ 8) (sym second.1) first.1)
