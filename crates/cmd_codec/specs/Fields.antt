-- The bytes of the values that commands have. Numbers are big-endian.
use Rattle.std.specs.Prelude.{ℕ, ℤ, List, [], ◌∷◌, ◌++◌, length, Option, Some, None}
use Rattle.std.specs.List.{flat_map}
use Rattle.std.specs.Int.{w16, w32, w64, to_be_bytes}
use Rattle.iv_time.specs.declared.granularity.Granularity.{Granularity}
use Rattle.iv_time.specs.declared.granularity.Granularity.TheVariants.{Minute, FifteenMinute, Hour, Day, Week, Month, Year}
use Rattle.iv_span.specs.Extent.{Extent}
use Rattle.seg_names.specs.declared.seg_id.SegId.{SegId}
use Rattle.wire_fields.specs.Fields.{text_field, signed_field}
use Rattle.book_rows.specs.declared.kinds.TaskKind.{TaskKind}
use Rattle.book_rows.specs.declared.kinds.TaskKind.TheVariants.{Realtime, Batch, Compaction, Other}
use Rattle.book_rows.specs.declared.kinds.LockKind.{LockKind}
use Rattle.book_rows.specs.declared.kinds.LockKind.TheVariants as lock_kind
use Rattle.book_rows.specs.declared.kinds.TaskStatus.{TaskStatus}
use Rattle.book_rows.specs.declared.kinds.TaskStatus.TheVariants.{Waiting, Running, Success, Failed}
use Rattle.book_rows.specs.declared.rows.Want.{Want}
use Rattle.book_rows.specs.declared.rows.Offset.{Offset}
use Rattle.book_rows.specs.declared.rows.Range.{Range}
use Rattle.book_rows.specs.declared.rows.Ranges.{Ranges}

-- one byte for each kind of task
abbrev pub kind_code : TaskKind → ℕ
kind_code Realtime = 1
kind_code Batch = 2
kind_code Compaction = 3
kind_code Other = 4

-- one byte for each type of lock
abbrev pub lock_kind_code : LockKind → ℕ
lock_kind_code lock_kind.Exclusive = 1
lock_kind_code lock_kind.Shared = 2
lock_kind_code lock_kind.Append = 3
lock_kind_code lock_kind.Replace = 4

-- one byte for each status of a task
abbrev pub status_code : TaskStatus → ℕ
status_code Waiting = 1
status_code Running = 2
status_code Success = 3
status_code Failed = 4

-- one byte for each length of bucket
abbrev pub granularity_code : Granularity → ℕ
granularity_code Minute = 1
granularity_code FifteenMinute = 2
granularity_code Hour = 3
granularity_code Day = 4
granularity_code Week = 5
granularity_code Month = 6
granularity_code Year = 7

-- a number of four bytes
unfoldable pub short : ℕ → List ℕ
short n = to_be_bytes w32 n

-- a signed number of eight bytes, as its two's complement
unfoldable pub signed : ℤ → List ℕ
signed z = signed_field z

-- a span is its start and its end
abbrev pub span_field : Extent → List ℕ
span_field e = signed e.start ++ signed e.end

abbrev pub id_field : SegId → List ℕ
id_field id = text_field id.source ++ (span_field id.span ++ (signed id.version ++ to_be_bytes w32 id.part))

abbrev pub want_field : Want → List ℕ
want_field want = lock_kind_code want.lock_kind ∷ span_field want.span

abbrev pub offset_field : Offset → List ℕ
offset_field o = to_be_bytes w32 o.partition ++ to_be_bytes w64 o.offset

abbrev pub range_field : Range → List ℕ
range_field r = to_be_bytes w32 r.partition ++ (to_be_bytes w64 r.start ++ to_be_bytes w64 r.end)

-- a list is its length, in two bytes, and its items
abbrev pub list_field : {A : Type 0} → (A → List ℕ) → List A → List ℕ
list_field field xs = to_be_bytes w16 (length xs) ++ flat_map field xs

-- an option is a byte that says whether there is a value, and the value
abbrev pub option_field : {A : Type 0} → (A → List ℕ) → Option A → List ℕ
option_field field (Some x) = 1 ∷ field x
option_field field None = 0 ∷ []

abbrev pub ranges_field : Ranges → List ℕ
ranges_field r = text_field r.stream ++ list_field range_field r.parts
