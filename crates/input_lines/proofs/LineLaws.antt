-- How the lines of an input go on.
use Rattle.std.proofs.Common.{◌≡◌, ℕ, List, [], ◌∷◌, ◌++◌, refl, ap}
use Rattle.input_lines.specs.Lines.{put_first, lines_of, IsWithin}

-- two parts of one line
pub within-append : (xs ys : List ℕ) → IsWithin xs → IsWithin ys → IsWithin (xs ++ ys)
within-append [] ys h more = more
within-append (x ∷ xs) ys h more = (h.0, within-append xs ys h.1 more)

-- a line that byte 10 ends, and the lines after it
pub lines-ended : (line rest : List ℕ) → IsWithin line → lines_of (line ++ 10 ∷ rest) ≡ line ∷ lines_of rest
unfolding lines_of
lines-ended [] rest h = refl
lines-ended (x ∷ line) rest h = rw h.0 (ap (λ (ls : List (List ℕ)). put_first x ls) (lines-ended line rest h.1))

-- a last line, which isn't empty
pub lines-last : (byte : ℕ) (line : List ℕ) → IsWithin (byte ∷ line) → lines_of (byte ∷ line) ≡ (byte ∷ line) ∷ []
unfolding lines_of
lines-last byte [] h = rw h.0 refl
lines-last byte (x ∷ line) h = rw h.0 (ap (λ (ls : List (List ℕ)). put_first byte ls) (lines-last x line h.1))

-- no bytes, no lines
pub lines-none : lines_of [] ≡ []
unfolding lines_of
lines-none = refl
