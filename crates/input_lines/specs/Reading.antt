-- What the reader of lines holds, and what its calls do to it.
use Rattle.std.specs.Prelude.{◌≡◌, ℕ, ◌+◌, ◌*◌, ◌-◌, ◌<◌, ◌≤◌, Bool, List, [], ◌∷◌, ◌++◌, length}
use Rattle.input_lines.specs.Lines.{lines_of, line_limit, IsWithin}
use Rattle.input_lines.specs.declared.found.Found.{Found}
use Rattle.input_lines.specs.declared.found.Found.TheVariants.{Line, LongLine, End}

-- Bytes that were read and aren't taken as lines, how many bytes were read in all and how many may be, and whether
-- the end was seen.
pub record Reading : Type 0 where
  pub buffered : List ℕ
  pub taken : ℕ
  pub limit : ℕ
  pub is_ended : Bool

-- the bytes that are not taken as lines: those in hand, and those that the source has left
abbrev pub unread : Reading → List ℕ → List ℕ
unread reading left = reading.buffered ++ left

-- The answer names the first line of what was unread, or says that nothing was. Of a line above 1,048,576 bytes the length
-- alone is told.
abbrev pub Finds : Found → List ℕ → List ℕ → List ℕ → Type 0
Finds Line before line after = (lines_of before ≡ line ∷ lines_of after) × (length line ≤ line_limit)
Finds (LongLine size) before line after = (long : List ℕ) × (lines_of before ≡ long ∷ lines_of after) × (line_limit < length long) × (size ≡ length long)
Finds End before line after = (before ≡ []) × (after ≡ [])

-- What was unread began with a line that byte 10 ends. Both are taken.
pub record IsCut (before after : List ℕ) : Type 0 where
  pub line : List ℕ
  pub within : IsWithin line
  pub parts : before ≡ line ++ 10 ∷ after

-- No line was found, by a fault or at the limit: of what was unread, some first bytes are lost, perhaps none, among them
-- no byte 10, and the source has all the others.
pub record Loses (before left : List ℕ) : Type 0 where
  pub part : List ℕ
  pub within : IsWithin part
  pub parts : before ≡ part ++ left

-- so much is to be done at the most until the end
abbrev pub work_left : Reading → ℕ
work_left reading = length reading.buffered + 2 * (reading.limit - reading.taken)
