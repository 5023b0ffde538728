-- Instants, and their texts in full.
use Rattle.std.proofs.Common.{◌≡◌, ℕ, List, true, false, IsTrue, Some, None, ℤ, refl, arith}
use Rattle.std.specs.Prelude.{◌≤ℤ◌, int_le, bytes_eq}
use Rattle.std.proofs.lemmas.Int.{ints}
use Rattle.std.proofs.lemmas.Bool.{and_parts}
use Rattle.std.proofs.lemmas.Slice.Eq.{bytes_eq-Decides}
use Rattle.iv_time.specs.Texts.{instant_of}
use Rattle.iv_time.specs.Civil.{instant_text}
use Rattle.iv_time.specs.Range.{IsInstant, is_instant}
use Rattle.seg_names.specs.IdTexts.{full_instant}

le_from : (a b : ℤ) → IsTrue (int_le a b) → a ≤ℤ b
le_from a b h = grind (arith, ints)

pub instant_in : (ms : ℤ) → is_instant ms ≡ true → IsInstant ms
instant_in ms h = let both = and_parts _ _ h in (le_from _ _ both.0, le_from _ _ both.1)

-- what is written in full
pub full_at : (text : List ℕ) (ms : ℤ) → instant_of text ≡ Some ms → instant_text ms ≡ text → full_instant text ≡ Some ms
unfolding full_instant
full_at text ms e same =
    let test : bytes_eq (instant_text ms) text ≡ true = (bytes_eq-Decides (instant_text ms) text).1 same in
    rw (e, test) refl

pub full_fails : (text : List ℕ) (ms : ℤ) → instant_of text ≡ Some ms → bytes_eq (instant_text ms) text ≡ false → full_instant text ≡ None
unfolding full_instant
full_fails text ms e test = rw (e, test) refl
