-- The bytes in hand, and what the steps of the reader do to them.
use Rattle.std.specs.Prelude.{◌≡◌, ℕ, ◌+◌, ◌<◌, ◌≤◌, Bool, true, false, IsTrue, List, [], ◌∷◌, ◌++◌, length, take, drop, nat_lt, ◌==◌, if◌then◌else◌}
use Rattle.input_lines.specs.Lines.{IsWithin, line_limit}
use Rattle.input_lines.specs.Reading.{Reading, unread, work_left}
use Rattle.input_lines.specs.declared.found.Found.{Found}
use Rattle.input_lines.specs.declared.found.Found.TheVariants.{Line, LongLine, End}
use Rattle.input_lines.specs.declared.buffer.Buffer.{Buffer}
use Rattle.input_lines.specs.declared.buffer.Part.{Part}

abbrev pub reading_of : Buffer → Reading
reading_of b = record { buffered = drop b.start b.bytes.items; taken = b.taken; limit = b.limit; is_ended = b.is_ended }

pub record IsBuffer (b : Buffer) : Type 0 where
  pub start : b.start ≤ length b.bytes.items
  pub taken : b.taken ≤ b.limit
  pub fits : b.limit ≤ 18446744073709551615
  -- all bytes in hand were read
  pub held : length b.bytes.items ≤ b.taken
  -- the end is seen by a read, and none is made at the limit
  pub ended : b.is_ended ≡ true → b.taken < b.limit

-- the part has no byte 10, and byte 10 follows or nothing
pub record IsPart (bytes : List ℕ) (part : Part) : Type 0 where
  pub fits : part.size ≤ length bytes
  pub within : IsWithin (take part.size bytes)
  pub ended : part.is_ended ≡ true → (part.size < length bytes) × (drop part.size bytes ≡ 10 ∷ drop (part.size + 1) bytes)
  pub all : part.is_ended ≡ false → part.size ≡ length bytes

-- The line with one part more, and its length. Up to its limit all of it is kept.
pub record AddsPart (before after : List ℕ) (was : ℕ) (part : List ℕ) (size : ℕ) : Type 0 where
  pub size_is : size ≡ was + length part
  pub kept : size ≤ line_limit → after ≡ before ++ part

-- A part of the line that is looked for, and the line so far before and after it.
pub record Takes (old new : List ℕ) (was : ℕ) (before after : List ℕ) (is_ended : Bool) (size : ℕ) : Type 0 where
  pub part : List ℕ
  pub within : IsWithin part
  pub ended : is_ended ≡ true → old ≡ part ++ 10 ∷ new
  pub all : is_ended ≡ false → (old ≡ part) × (new ≡ [])
  pub adds : AddsPart before after was part size

-- What was seen of the line that is looked for, and what of it is kept.
pub record SoFar (line so_far : List ℕ) (size : ℕ) : Type 0 where
  pub within : IsWithin so_far
  pub size_is : size ≡ length so_far
  pub kept : size ≤ line_limit → line ≡ so_far

-- how a line of this length is answered
abbrev pub found_by : ℕ → Found
found_by size = if nat_lt line_limit size then LongLine size else Line

-- the same at the end, where a line without bytes is none
abbrev pub last_by : ℕ → Found
last_by size = if size == 0 then End else found_by size

-- The state between two parts of a line: from what was unread at first a part of the line is seen.
pub record Looking (first : Reading) (first_left : List ℕ) (now : Reading) (left : List ℕ) (line : List ℕ) (size : ℕ) (told : Bool) : Type 0 where
  pub seen : List ℕ
  pub so_far : SoFar line seen size
  pub work : work_left now + length seen ≤ work_left first
  pub parts : IsTrue told → unread first first_left ≡ seen ++ unread now left
