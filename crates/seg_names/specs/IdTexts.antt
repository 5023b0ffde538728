-- The texts of segment ids: `SOURCE_START_END_VERSION`, and `_PART` where the part isn't 0.
use Rattle.std.specs.Prelude.{ℕ, ◌+◌, ◌-◌, ◌==◌, ◌&&◌, List, [], ◌∷◌, ◌++◌, Bool, not, Option, Some, None, Result, Ok, Err, ◌≡◌, if◌then◌else◌, length, take, drop, slice_index, nat_lt, nat_le, bytes_eq, decimal, ℤ, int_lt}
use Rattle.std.specs.List.{suffix_len}
use Rattle.std.specs.Str.Parse.{digits_value}
use Rattle.iv_span.specs.Extent.{Extent}
use Rattle.iv_time.specs.Texts.{◌>>=◌, instant_of}
use Rattle.iv_time.specs.Civil.{instant_text}
use Rattle.seg_names.specs.Names.{is_name}
use Rattle.seg_names.specs.Ids.{has_instants}
use Rattle.seg_names.specs.declared.seg_id.SegId.{SegId}
use Rattle.seg_names.specs.declared.seg_id.SegFault.{SegFault}
use Rattle.seg_names.specs.declared.seg_id.SegFault.TheVariants as Faults
use Rattle.seg_names.specs.declared.name.NameFault.{NameFault}
use Rattle.seg_names.specs.declared.name.NameFault.TheVariants as Names

-- ---- how an id is written

-- an instant in full, after a `_`
unfoldable pub instant_field : ℤ → List ℕ
instant_field ms = 95 ∷ instant_text ms

-- a part's number in decimal, after a `_`; nothing for part 0
abbrev pub part_text : ℕ → List ℕ
part_text part = if part == 0 then [] else 95 ∷ decimal part

-- the source, the span's start and end, the version and the part
abbrev pub id_text : SegId → List ℕ
id_text id = id.source ++ instant_field id.span.start ++ instant_field id.span.end ++ instant_field id.version ++ part_text id.part

-- what holds of each id that has a text: a name, a span with its start below its end, instants, and a part of 32 bits
abbrev pub is_seg_id : SegId → Bool
is_seg_id id = is_name id.source && int_lt id.span.start id.span.end && has_instants id && nat_lt id.part 4294967296

-- ---- how an id is read, from the right end

-- that number in decimal without leading zeros, from 1 to 4294967295
abbrev pub is_part_number : ℕ → List ℕ → Bool
is_part_number number digits = nat_le 1 number && nat_le number 4294967295 && bytes_eq (decimal number) digits

-- the part whose number these digits are
unfoldable pub number_of : List ℕ → Option ℕ
number_of digits = if is_part_number (digits_value 10 digits) digits then Some (digits_value 10 digits) else None

-- those bytes, and the part whose number follows them after a `_`
unfoldable pub number_after : List ℕ → List ℕ → Option (List ℕ × ℕ)
number_after front [] = None
number_after front (x ∷ digits) = do
  number ← number_of digits
  if x == 95 then Some (front, number) else None

-- how many bytes follow the last `_`
abbrev pub after_underscore : List ℕ → ℕ
after_underscore text = suffix_len (λ b. not (b == 95)) text

-- the bytes before the last `_`, and the part whose number follows it
unfoldable pub numbered_part : List ℕ → Option (List ℕ × ℕ)
numbered_part text =
    if nat_lt (after_underscore text) (length text)
    then number_after (take (length text - (after_underscore text + 1)) text) (drop (length text - (after_underscore text + 1)) text)
    else None

-- the last byte is `Z`
abbrev pub ends_with_z : List ℕ → Bool
ends_with_z text = nat_lt 0 (length text) && (slice_index text (length text - 1) == 90)

-- the bytes before the part, and the part: 0 where the last byte is `Z`
unfoldable pub part_of : List ℕ → Option (List ℕ × ℕ)
part_of text = if ends_with_z text then Some (text, 0) else numbered_part text

-- the instant that the text is in full
unfoldable pub full_instant : List ℕ → Option ℤ
full_instant text = do
  ms ← instant_of text
  if bytes_eq (instant_text ms) text then Some ms else None

-- those bytes, and the instant that follows them in full after a `_`
unfoldable pub instant_after : List ℕ → List ℕ → Option (List ℕ × ℤ)
instant_after front [] = None
instant_after front (x ∷ text) = do
  ms ← full_instant text
  if x == 95 then Some (front, ms) else None

-- the bytes before the last 25, and the instant that the last 24 are in full, after a `_`
unfoldable pub last_instant : List ℕ → Option (List ℕ × ℤ)
last_instant text =
    if nat_le 25 (length text) then instant_after (take (length text - 25) text) (drop (length text - 25) text) else None

-- the bytes of the source, the span's start and end, the version and the part
unfoldable pub parts_of : List ℕ → Option (List ℕ × ℤ × ℤ × ℤ × ℕ)
parts_of text = do
  part ← part_of text
  version ← last_instant part.0
  end ← last_instant version.0
  start ← last_instant end.0
  Some (start.0, start.1, end.1, version.1, part.1)

-- the id of these, where the start is below the end and the source is a name
abbrev pub checked_id : List ℕ → Extent → ℤ → ℕ → Option SegId
checked_id source span version part =
    if int_lt span.start span.end && is_name source then Some (record { source = source; span = span; version = version; part = part }) else None

-- the id that a text stands for
unfoldable pub id_of : List ℕ → Option SegId
id_of text = do
  p ← parts_of text
  checked_id p.0 (record { start = p.1; end = p.2 }) p.3 p.4

-- ---- what reading answers

-- the fault of an id whose source has that fault
abbrev pub fault_of_name : NameFault → SegFault
fault_of_name Names.BadName = Faults.BadSegId
fault_of_name Names.OutOfMemory = Faults.OutOfMemory

-- what was read, unless memory ran out
abbrev pub GivesId : Result SegId SegFault → Option SegId → Type 0
GivesId (Ok id) read = read ≡ Some id
GivesId (Err Faults.BadSegId) read = read ≡ None
GivesId (Err Faults.OutOfMemory) read = Unit {0}
