-- The rules on live chunks said of chunk rows, and that they say the same as said of live ids.
use Rattle.std.specs.Prelude.{◌&&◌, ◌<◌, ◌≡◌, List, int_le, int_lt, true}
use Rattle.iv_span.specs.Extent.{covers, overlap}
use Rattle.seg_names.specs.Ids.{same_id}
use Rattle.seg_names.specs.declared.seg_id.SegId.{SegId}
use Rattle.book_rows.specs.Allocation.{is_of_chunk}
use Rattle.book_rows.specs.Kinds.{guards}
use Rattle.book_rows.specs.Lists.{In, count}
use Rattle.book_rows.specs.Live.{IsIn, IsLive, IsValid}
use Rattle.book_rows.specs.Rules.{AreBelowLocks, HaveCopies, HaveOneSpan}
use Rattle.book_rows.specs.declared.rows.ChunkRow.{ChunkRow}
use Rattle.book_rows.specs.declared.rows.PendingRow.{PendingRow}
use Rattle.book_rows.specs.declared.rows.PosseRow.{PosseRow}
use Rattle.book_rows.specs.declared.rows.SegmentRow.{SegmentRow}
use Rattle.laws_chunks.specs.ChunksSound.{HaveLiveChunks}

-- a used segment or a pending is in the chunk
abbrev pub IsLiveChunk : List SegmentRow → List PendingRow → ChunkRow → Type 0
IsLiveChunk rows ps c = (a : SegId) × IsLive rows ps a × IsIn c a

-- two live chunks of one source and version that overlap have one span
abbrev pub ChunksHaveOneSpan : List ChunkRow → List SegmentRow → List PendingRow → Type 0
ChunksHaveOneSpan cs rows ps = (c d : ChunkRow) → In c cs → In d cs → IsLiveChunk rows ps c → IsLiveChunk rows ps d → c.source ≡ d.source → c.version ≡ d.version → overlap c.span d.span ≡ true → c.span ≡ d.span

-- a live chunk that overlaps a valid exclusive or replacing lock of its source has at most its version
abbrev pub ChunksAreBelowLocks : List PosseRow → List ChunkRow → List SegmentRow → List PendingRow → Type 0
ChunksAreBelowLocks qs cs rows ps = (c : ChunkRow) (q : PosseRow) → In c cs → IsLiveChunk rows ps c → IsValid qs q → guards q.lock_kind ≡ true → c.source ≡ q.source → overlap c.span q.span ≡ true → int_le c.version q.version ≡ true

-- a live chunk above a live one that it overlaps has a core, and contains it and has one copy of each of its root pendings
abbrev pub ChunksHaveCopies : List ChunkRow → List SegmentRow → List PendingRow → Type 0
ChunksHaveCopies cs rows ps = (c d : ChunkRow) → In c cs → In d cs → IsLiveChunk rows ps c → IsLiveChunk rows ps d → c.source ≡ d.source → overlap c.span d.span ≡ true → int_lt c.version d.version ≡ true
    → (0 < d.core) × ((r : PendingRow) → In r ps → r.id ≡ r.root → IsIn c r.id → (covers d.span c.span ≡ true) × (count (λ x. is_of_chunk d x.id && same_id x.root r.id) ps ≡ 1))

pub record AreSame (qs : List PosseRow) (cs : List ChunkRow) (rows : List SegmentRow) (ps : List PendingRow) : Type 0 where
  pub one_span_to : HaveOneSpan rows ps → ChunksHaveOneSpan cs rows ps
  pub one_span_from : ChunksHaveOneSpan cs rows ps → HaveOneSpan rows ps
  pub below_to : AreBelowLocks qs rows ps → ChunksAreBelowLocks qs cs rows ps
  pub below_from : ChunksAreBelowLocks qs cs rows ps → AreBelowLocks qs rows ps
  pub copies_to : HaveCopies cs rows ps → ChunksHaveCopies cs rows ps
  pub copies_from : ChunksHaveCopies cs rows ps → HaveCopies cs rows ps

-- where each live id has its chunk row, both say the same
abbrev pub TextsAreSame : Type 0
TextsAreSame = (qs : List PosseRow) (cs : List ChunkRow) (rows : List SegmentRow) (ps : List PendingRow) → HaveLiveChunks cs rows ps → AreSame qs cs rows ps
