-- Names are UTF-8.
use Rattle.std.proofs.Common.{◌≡◌, ℕ, ◌<◌, List, [], ◌∷◌, Bool, true, false, refl, arith}
use Rattle.std.specs.List.{AllByRecursion, list_all}
use Rattle.std.specs.Str.{IsUtf8, is_utf8}
use Rattle.std.proofs.lemmas.Bool.{and_parts}
use Rattle.std.proofs.lemmas.Bool.Decides.{nat_tests}
use Rattle.std.proofs.lemmas.List.Elements.{All-from_recursion}
use Rattle.std.proofs.lemmas.Str.{IsUtf8-from_ascii, IsUtf8-from_is_utf8, is_utf8-from_IsUtf8}
use Rattle.std.proofs.lemmas.Str.Ascii.{IsAscii-from_all}
use Rattle.seg_names.specs.Names.{is_name, is_name_byte}

name_byte_small : (x : ℕ) → is_name_byte x ≡ true → x < 128
name_byte_small x h = grind (arith, nat_tests)

all_small : (text : List ℕ) → list_all is_name_byte text ≡ true → AllByRecursion (λ x. x < 128) text
all_small [] h = tt
all_small (x ∷ xs) h = let p = and_parts (is_name_byte x) (list_all is_name_byte xs) h in (name_byte_small x p.0, all_small xs p.1)

name_is_utf8 : (text : List ℕ) → is_name text ≡ true → is_utf8 text ≡ true
name_is_utf8 text h =
    let ascii = All-from_recursion (λ x. x < 128) text (all_small text (and_parts _ (list_all is_name_byte text) h).1) in
    is_utf8-from_IsUtf8 text (IsUtf8-from_ascii text (IsAscii-from_all text ascii))

-- what isn't UTF-8 fails the test
pub no_text : (text : List ℕ) → (IsUtf8 text → ⊥) → is_utf8 text ≡ false
no_text text h = no_text_by (is_utf8 text) (λ e. h (IsUtf8-from_is_utf8 text e))
  where
    no_text_by : (b : Bool) → (b ≡ true → ⊥) → b ≡ false
    no_text_by true k = absurd (k refl)
    no_text_by false k = refl

false_by : (b c : Bool) → (b ≡ true → c ≡ true) → c ≡ false → b ≡ false
false_by true c h e = cc (h refl)
false_by false c h e = refl

pub no_name : (text : List ℕ) → is_utf8 text ≡ false → is_name text ≡ false
no_name text = false_by (is_name text) (is_utf8 text) (name_is_utf8 text)
