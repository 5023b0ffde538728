-- A chunk row comes, and a root pending at an open place.
use Rattle.std.specs.Prelude.{◌++◌, ◌<◌, ◌∷◌, ◌≡◌, ◌⊎◌, List, [], int_le, int_lt, map, pos, true}
use Rattle.iv_span.specs.Extent.{covers, overlap}
use Rattle.seg_names.specs.declared.seg_id.SegId.{SegId}
use Rattle.book_rows.specs.Allocation.{bumped}
use Rattle.book_rows.specs.Kinds.{guards}
use Rattle.book_rows.specs.Lists.{In}
use Rattle.book_rows.specs.Live.{DoMeet, IsIn, IsLive, IsSameChunk, IsValid, IsWhole}
use Rattle.book_rows.specs.Rules.{HasPosse}
use Rattle.book_rows.specs.declared.rows.Book.{Book}
use Rattle.book_rows.specs.declared.rows.ChunkRow.{ChunkRow}
use Rattle.book_rows.specs.declared.rows.PendingRow.{PendingRow}
use Rattle.book_rows.specs.declared.rows.PosseRow.{PosseRow}
use Rattle.book_rows.specs.declared.rows.SegmentRow.{SegmentRow}
use Rattle.book_rows.specs.declared.kinds.LockKind.TheVariants as LockKinds
use Rattle.laws_chunks.specs.ChunksSound.{AreChunksSound}

-- ---- a chunk row without core comes

-- a valid lock, not a replacing one, that contains the chunk's span and has its version
pub record HasMaker (qs : List PosseRow) (c : ChunkRow) : Type 0 where
  pub lock : PosseRow
  pub is_valid : IsValid qs lock
  pub kind_is : lock.lock_kind ≡ LockKinds.Replace → ⊥
  pub version_is : c.version ≡ lock.version
  pub high : int_lt (pos 0) lock.version ≡ true
  pub within : covers lock.span c.span ≡ true

-- the chunk isn't there yet, and is of version 0 or of such a lock's
pub record IsChunk (b : Book) (c : ChunkRow) : Type 0 where
  pub core_is : c.core ≡ 0
  pub is_new : (e : ChunkRow) (a : SegId) → In e b.chunks → IsIn e a → IsIn c a → ⊥
  pub maker : (c.version ≡ pos 0) ⊎ HasMaker b.posses c
  pub proper : int_lt c.span.start c.span.end ≡ true

abbrev pub chunk_made : ChunkRow → Book → Book
chunk_made c b = record b { chunks = b.chunks ++ c ∷ [] }

abbrev pub ChunkKeeps : Type 0
ChunkKeeps = (c : ChunkRow) (b : Book) → IsChunk b c → AreChunksSound b → AreChunksSound (chunk_made c b)

-- ---- a root pending comes

-- the id may become the root of a pending
pub record IsOpen (qs : List PosseRow) (cs : List ChunkRow) (rows : List SegmentRow) (ps : List PendingRow) (a : SegId) : Type 0 where
  pub chunk : ChunkRow
  pub among : In chunk cs
  pub is_in : IsIn chunk a
  pub above : (b : SegId) → IsLive rows ps b → DoMeet b a → IsSameChunk b a ⊎ (int_lt b.version a.version ≡ true)
  pub below_locks : (q : PosseRow) → IsValid qs q → guards q.lock_kind ≡ true → a.source ≡ q.source → overlap a.span q.span ≡ true → int_le a.version q.version ≡ true
  pub whole : (c : ChunkRow) → In c cs → IsIn c a → IsWhole rows c
  pub alone : (c : ChunkRow) → In c cs → IsIn c a → (0 < c.core) ⊎ ((b : SegId) → IsLive rows ps b → DoMeet b a → IsSameChunk b a)

-- its place is open, its lock is there, and its part is the next of its chunk
pub record IsAllotment (b : Book) (n : PendingRow) : Type 0 where
  pub is_open : IsOpen b.posses b.chunks b.segments b.pendings n.id
  pub is_root : n.id ≡ n.root
  pub has_posse : HasPosse b.posses n
  pub part_is : (c : ChunkRow) → In c b.chunks → IsIn c n.id → n.id.part ≡ c.next

-- the pending is added, and the next part of its chunk goes on
abbrev pub root_allotted : PendingRow → Book → Book
root_allotted n b = record b { chunks = map (bumped n.id) b.chunks; pendings = b.pendings ++ n ∷ [] }

abbrev pub AllotmentKeeps : Type 0
AllotmentKeeps = (n : PendingRow) (b : Book) → IsAllotment b n → AreChunksSound b → AreChunksSound (root_allotted n b)
