-- Where a root pending may be placed.
use Rattle.std.specs.Prelude.{◌≡◌, List, false, int_lt, true, ℕ, ℤ}
use Rattle.iv_span.specs.Extent.{covers, has, overlap}
use Rattle.seg_names.specs.declared.seg_id.SegId.{SegId}
use Rattle.book_rows.specs.Lists.{In}
use Rattle.book_rows.specs.Live.{IsIn, IsLive, IsSameChunk, IsValid}
use Rattle.book_rows.specs.declared.rows.Book.{Book}
use Rattle.book_rows.specs.declared.rows.ChunkRow.{ChunkRow}
use Rattle.book_rows.specs.declared.rows.PendingRow.{PendingRow}
use Rattle.book_rows.specs.declared.rows.PosseRow.{PosseRow}
use Rattle.book_rows.specs.declared.rows.SegmentRow.{SegmentRow}
use Rattle.laws_chunks.specs.ChunksSound.{AreChunksSound}
use Rattle.laws_chunks.specs.LockMoves.{IsGrant, granted, joined_locks, revoked}
use Rattle.laws_chunks.specs.Openings.{IsOpen}

abbrev pub IsOpenIn : Book → SegId → Type 0
IsOpenIn b a = IsOpen b.posses b.chunks b.segments b.pendings a

-- ---- three places

-- a used segment whose chunk no used segment of a greater version meets
pub record IsUncut (b : Book) (u : SegmentRow) : Type 0 where
  pub among : In u b.segments
  pub used : u.used ≡ true
  pub uncut : (w : SegmentRow) → In w b.segments → w.used ≡ true → w.id.source ≡ u.id.source → overlap w.id.span u.id.span ≡ true → int_lt u.id.version w.id.version ≡ false

abbrev pub RowPlaceIsOpen : Type 0
RowPlaceIsOpen = (b : Book) (u : SegmentRow) (a : SegId) → AreChunksSound b → IsUncut b u → IsSameChunk a u.id → IsOpenIn b a

-- a pending at an instant at which no used segment is
pub record IsBare (b : Book) (p : PendingRow) (t : ℤ) : Type 0 where
  pub among : In p b.pendings
  pub at : has p.id.span t ≡ true
  pub none : (w : SegmentRow) → In w b.segments → w.used ≡ true → w.id.source ≡ p.id.source → has w.id.span t ≡ false

abbrev pub PendingPlaceIsOpen : Type 0
PendingPlaceIsOpen = (b : Book) (p : PendingRow) (t : ℤ) (a : SegId) → AreChunksSound b → IsBare b p t → IsSameChunk a p.id → IsOpenIn b a

-- a chunk row that no live chunk meets, of a valid lock's version
pub record IsBucket (b : Book) (a : SegId) : Type 0 where
  pub chunk : ChunkRow
  pub among : In chunk b.chunks
  pub is_in : IsIn chunk a
  pub lock : PosseRow
  pub is_valid : IsValid b.posses lock
  pub source_is : a.source ≡ lock.source
  pub version_is : a.version ≡ lock.version
  pub within : covers lock.span a.span ≡ true
  pub empty : (x : SegId) → IsLive b.segments b.pendings x → x.source ≡ a.source → overlap x.span a.span ≡ false

abbrev pub BucketIsOpen : Type 0
BucketIsOpen = (b : Book) (a : SegId) → AreChunksSound b → IsBucket b a → IsOpenIn b a

-- ---- an open place stays open where locks are revoked, joined or granted

abbrev pub RevokeStaysOpen : Type 0
RevokeStaysOpen = (ns : List ℕ) (b : Book) (a : SegId) → IsOpenIn b a → IsOpenIn (revoked ns b) a

abbrev pub JoinStaysOpen : Type 0
JoinStaysOpen = (ns task : List ℕ) (b : Book) (a : SegId) → IsOpenIn b a → IsOpenIn (joined_locks ns task b) a

abbrev pub GrantStaysOpen : Type 0
GrantStaysOpen = (q : PosseRow) (last : ℤ) (b : Book) (a : SegId) → IsGrant b q last → AreChunksSound b → IsOpenIn b a → IsOpenIn (granted q last b) a
