-- The bytes of the values that rows have: those of records, and lists with a count of four bytes.
use Rattle.std.specs.Prelude.{ℕ, Bool, true, false, List, [], ◌++◌, length}
use Rattle.std.specs.List.{flat_map}
use Rattle.std.specs.Int.{w64, to_be_bytes}
use Rattle.wire_fields.specs.Fields.{text_field}
use Rattle.seg_names.specs.declared.seg_id.SegId.{SegId}
use Rattle.book_rows.specs.Lists.{is_empty}
use Rattle.book_rows.specs.declared.kinds.PubKind.{PubKind}
use Rattle.book_rows.specs.declared.kinds.PubKind.TheVariants as kind
use Rattle.book_rows.specs.declared.kinds.SeqState.{SeqState}
use Rattle.book_rows.specs.declared.kinds.SeqState.TheVariants.{Reading, Paused, Closed, Published, Abandoned}
use Rattle.book_rows.specs.declared.rows.Ranges.{Ranges}
use Rattle.book_rows.specs.declared.rows.SpanSince.{SpanSince}
use Rattle.book_rows.specs.declared.rows.Report.{Report}
use Rattle.cmd_codec.specs.Fields.{short, span_field, id_field, offset_field, range_field}
use Rattle.snap_codec.specs.declared.marks.Flags.{Flags}
use Rattle.snap_codec.specs.declared.marks.Mark.{Mark}
use Rattle.snap_codec.specs.declared.marks.Mark.TheVariants as mark

-- a number of eight bytes
unfoldable pub long : ℕ → List ℕ
long n = to_be_bytes w64 n

abbrev pub bool_code : Bool → ℕ
bool_code false = 0
bool_code true = 1

-- one byte for each state of a sequence
abbrev pub state_code : SeqState → ℕ
state_code Reading = 1
state_code Paused = 2
state_code Closed = 3
state_code Published = 4
state_code Abandoned = 5

abbrev pub flags_code_by : Bool → Bool → ℕ
flags_code_by false false = 0
flags_code_by true false = 1
flags_code_by false true = 2
flags_code_by true true = 3

-- one byte for whether a segment is used and whether it is a tombstone
abbrev pub flags_code : Flags → ℕ
flags_code f = flags_code_by f.used f.tombstone

-- one byte for each kind of publication, and another for the two kinds that have tombstones
abbrev pub mark_code : Mark → ℕ
mark_code mark.Append = 1
mark_code mark.Over = 2
mark_code mark.Replace = 3
mark_code mark.Drop = 4
mark_code mark.Reset = 5
mark_code mark.EmptyingOver = 6
mark_code mark.EmptyingReplace = 7

abbrev pub mark_by : PubKind → Bool → Mark
mark_by kind.Append plain = mark.Append
mark_by kind.Over true = mark.Over
mark_by kind.Over false = mark.EmptyingOver
mark_by kind.Replace true = mark.Replace
mark_by kind.Replace false = mark.EmptyingReplace
mark_by kind.Drop plain = mark.Drop
mark_by kind.Reset plain = mark.Reset

-- the mark of a publication of that kind with these tombstones
abbrev pub mark_of : PubKind → List SegId → Mark
mark_of kind empties = mark_by kind (is_empty empties)

-- whether a list of tombstones follows
abbrev pub has_empties : Mark → Bool
has_empties mark.EmptyingOver = true
has_empties mark.EmptyingReplace = true
has_empties _ = false

-- a list is its length, in four bytes, and its items
abbrev pub list_field : {A : Type 0} → (A → List ℕ) → List A → List ℕ
list_field field xs = short (length xs) ++ flat_map field xs

-- the tombstones, where the mark says that there are some
abbrev pub empties_field : Bool → List SegId → List ℕ
empties_field true empties = list_field id_field empties
empties_field false empties = []

abbrev pub ranges_field : Ranges → List ℕ
ranges_field r = text_field r.stream ++ list_field range_field r.parts

abbrev pub span_since_field : SpanSince → List ℕ
span_since_field s = span_field s.span ++ long s.since

abbrev pub report_field : Report → List ℕ
report_field r = text_field r.task ++ list_field offset_field r.offsets
