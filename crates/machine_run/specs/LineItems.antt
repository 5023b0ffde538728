-- Lines as items.
use Rattle.std.specs.Prelude.{◌≡◌, ℕ, suc, ◌+◌, ◌≤◌, ◌<◌, Bool, false, IsTrue, List, [], ◌++◌, length, map, take, nat_lt, Option, Some, None, if◌then◌else◌}
use Rattle.host_desk.specs.Desk.{Rose}
use Rattle.input_lines.specs.Lines.{lines_of, line_limit, with_ends, IsWithin}
use Rattle.input_lines.specs.Reading.{Reading, unread}
use Rattle.machine_run.specs.declared.stop.Stop.{Stop}
use Rattle.machine_run.specs.declared.stop.Stop.TheVariants.{StoreFault, StoreCorrupt, InputFault, OutputFault, NoMemory, StoreFull, InputTooLong}

-- a line of at most 1,048,576 bytes, or the length of one above
pub data LineItem : Type 0 where
  short : (bytes : List ℕ) → LineItem
  long : (size : ℕ) → LineItem

abbrev pub item_by : Option ℕ → List ℕ → LineItem
item_by None bytes = short bytes
item_by (Some size) bytes = long size

abbrev pub item_of : List ℕ → LineItem
item_of line = if nat_lt line_limit (length line) then long (length line) else short line

-- the items of an input
abbrev pub items_of : List ℕ → List LineItem
items_of bytes = map item_of (lines_of bytes)

-- the bytes of a line that is handed out
abbrev pub text_of : LineItem → Option (List ℕ)
text_of (short bytes) = Some bytes
text_of (long size) = None

-- how many bytes a line has, without byte 10, handed out or not
abbrev pub size_of : LineItem → ℕ
size_of (short bytes) = length bytes
size_of (long size) = size

-- What was read of the bytes, up to those that are left, is their first i lines, each with its byte 10, and a part of one
-- line. So the lines that were read to their byte 10 are these.
pub record IsReadTo (bytes left : List ℕ) (i : ℕ) : Type 0 where
  pub part : List ℕ
  pub within : IsWithin part
  pub read : bytes ≡ with_ends (take i (lines_of bytes)) ++ part ++ left

-- Where lines break off: the end wasn't seen, and so many lines were read, up to the bytes that are left.
abbrev pub Breaks : Reading → List ℕ → List ℕ → ℕ → Type 0
Breaks reader remaining left count = (reader.is_ended ≡ false) × IsReadTo (unread reader remaining) left count

-- where lines break off with one before them
abbrev pub BreaksLater : Reading → List ℕ → Reading → List ℕ → Type 0
BreaksLater old before new after = (left : List ℕ) (count : ℕ) → Breaks new after left count → Breaks old before left (suc count)

-- What calls of a reader leave: the reader, what the source has left and its count of faults, before and after.
pub record ReadsOn (tells : Bool) (old : Reading) (remaining : List ℕ) (faults : ℕ) (new : Reading) (left : List ℕ) (later : ℕ) : Type 0 where
  pub counts : faults ≤ later
  pub limit : new.limit ≡ old.limit
  pub within : old.taken ≤ old.limit → new.taken ≤ new.limit
  pub taken : IsTrue tells → new.taken + length left ≡ old.taken + length remaining

-- Why no line came: the count of faults rose, or as many bytes were read as may be.
abbrev pub LineFails : Bool → Reading → List ℕ → ℕ → List ℕ → ℕ → Stop → Type 0
LineFails tells old remaining faults left later StoreFault = Unit {0}
LineFails tells old remaining faults left later (StoreCorrupt file at) = Unit {0}
LineFails tells old remaining faults left later InputFault = Rose faults later
LineFails tells old remaining faults left later OutputFault = Unit {0}
LineFails tells old remaining faults left later NoMemory = Unit {0}
LineFails tells old remaining faults left later (StoreFull length_now) = Unit {0}
LineFails tells old remaining faults left later InputTooLong = IsTrue tells → old.taken + length remaining ≡ old.limit + length left

-- the end was seen below the limit
abbrev pub LinesEnd : Bool → Reading → List ℕ → Type 0
LinesEnd tells reader remaining = (reader.taken < reader.limit) × (IsTrue tells → remaining ≡ [])
