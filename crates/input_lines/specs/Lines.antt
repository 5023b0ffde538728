-- The lines of an input.
use Rattle.std.specs.Prelude.{◌≡◌, ℕ, false, List, [], ◌∷◌, ◌++◌, ◌==◌, if◌then◌else◌}
use Rattle.input_lines.specs.declared.buffer.TheConstants.{LINE_LIMIT}

-- the most bytes of a line, without its byte 10
abbrev pub line_limit : ℕ
line_limit = LINE_LIMIT

-- a byte before the lines, in the first of them
abbrev pub put_first : ℕ → List (List ℕ) → List (List ℕ)
put_first byte [] = (byte ∷ []) ∷ []
put_first byte (line ∷ lines) = (byte ∷ line) ∷ lines

-- The pieces that end with byte 10, without it, and a last piece that isn't empty.
unfoldable pub lines_of : List ℕ → List (List ℕ)
lines_of [] = []
lines_of (byte ∷ rest) = if byte == 10 then [] ∷ lines_of rest else put_first byte (lines_of rest)

-- a part of one line: no byte 10
abbrev pub IsWithin : List ℕ → Type 0
IsWithin [] = Unit {0}
IsWithin (byte ∷ rest) = ((byte == 10) ≡ false) × IsWithin rest

-- these lines one after another, each with its byte 10
abbrev pub with_ends : List (List ℕ) → List ℕ
with_ends [] = []
with_ends (line ∷ lines) = line ++ 10 ∷ with_ends lines
