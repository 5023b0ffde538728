-- A whole insert keeps the rules on chunks: its spans one after another.
use Rattle.std.specs.Prelude.{◌++◌, ◌<◌, ◌≡◌, List, false, filter, int_lt, length, map, true}
use Rattle.iv_span.specs.Extent.{covers, overlap}
use Rattle.seg_names.specs.Ids.{same_id}
use Rattle.seg_names.specs.declared.seg_id.SegId.{SegId}
use Rattle.book_rows.specs.Ids.{is_of_span}
use Rattle.book_rows.specs.Lists.{In, Pairs}
use Rattle.book_rows.specs.Live.{IsIn, IsValid, IsWhole}
use Rattle.book_rows.specs.Over.{Target}
use Rattle.book_rows.specs.Publications.{Publish}
use Rattle.book_rows.specs.Rewrite.{after_insert, chunk_for, core_of, own_rows}
use Rattle.book_rows.specs.Shape.{AreDistinct}
use Rattle.book_rows.specs.Spans.{is_span_of}
use Rattle.book_rows.specs.declared.kinds.LockKind.{LockKind}
use Rattle.book_rows.specs.declared.rows.Book.{Book}
use Rattle.book_rows.specs.declared.rows.PendingRow.{PendingRow}
use Rattle.book_rows.specs.declared.rows.PosseRow.{PosseRow}
use Rattle.book_rows.specs.declared.rows.TaskRow.{TaskRow}
use Rattle.book_rows.specs.declared.kinds.LockKind.TheVariants as LockKinds
use Rattle.laws_chunks.specs.Appending.{IsTaken}
use Rattle.laws_chunks.specs.ChunksSound.{AreChunksSound}

-- no two spans overlap
abbrev pub AreDisjoint : List Target → Type 0
AreDisjoint xs = Pairs (λ x y. overlap x.span y.span ≡ false) xs

-- each id is of one of the spans
abbrev pub ArePlaced : List Target → List SegId → Type 0
ArePlaced xs ids = (a : SegId) → In a ids → is_span_of (map (λ x. x.span) xs) a.span ≡ true

-- under a valid lock of the kind, of the task's source, the span is filled: a whole set of distinct ids, or a tombstone, of the lock's version, of which no chunk is there
pub record IsFilledSpan (b : Book) (t : TaskRow) (kind : LockKind) (ids tombs : List SegId) (x : Target) : Type 0 where
  pub lock : PosseRow
  pub is_valid : IsValid b.posses lock
  pub kind_is : lock.lock_kind ≡ kind
  pub source_is : lock.source ≡ t.source
  pub version_is : x.version ≡ lock.version
  pub within : covers lock.span x.span ≡ true
  pub proper : int_lt x.span.start x.span.end ≡ true
  pub free : IsTaken b.chunks lock x.span → ⊥
  pub ids_of : (a : SegId) → In a (filter (is_of_span x.span) ids) → IsIn (chunk_for t.source ids 0 x) a
  pub tombs_of : (a : SegId) → In a (filter (is_of_span x.span) tombs) → IsIn (chunk_for t.source ids 0 x) a
  pub distinct : AreDistinct same_id (filter (is_of_span x.span) ids ++ filter (is_of_span x.span) tombs)
  pub parts : (a : SegId) → In a (filter (is_of_span x.span) ids ++ filter (is_of_span x.span) tombs) → a.part < core_of ids x.span
  pub whole : IsWhole (own_rows (length b.publications) ids tombs x.span) (chunk_for t.source ids 0 x)

-- and no pending of the source overlaps it
pub record IsInsertSpan (b : Book) (t : TaskRow) (ids tombs : List SegId) (x : Target) : Type 0 where
  pub filled : IsFilledSpan b t LockKinds.Exclusive ids tombs x
  pub no_pending : (p : PendingRow) → In p b.pendings → p.id.source ≡ t.source → overlap p.id.span x.span ≡ false

abbrev pub InsertedKeeps : Type 0
InsertedKeeps = (b : Book) (t : TaskRow) (xs : List Target) (given : Publish) → AreDisjoint xs → ArePlaced xs given.ids → ArePlaced xs given.tombstones → ((x : Target) → In x xs → IsInsertSpan b t given.ids given.tombstones x) → AreChunksSound b → AreChunksSound (after_insert t given xs b)
