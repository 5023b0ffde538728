-- The rules on locks, chunks, pendings, upgrade rows and what is shown, all at once, with the part of the shape that they need.
use Rattle.std.specs.Prelude.{◌+◌, ◌++◌, ◌<◌, ◌≡◌, ◌≤◌, ◌⊎◌, List, int_le, int_lt, length, pos, true, ℤ}
use Rattle.seg_names.specs.Ids.{same_id}
use Rattle.seg_names.specs.declared.seg_id.SegId.{SegId}
use Rattle.book_rows.specs.Lists.{In}
use Rattle.book_rows.specs.Live.{IsIn, IsLive}
use Rattle.book_rows.specs.Locks.{HasDistinctNumbers}
use Rattle.book_rows.specs.Rules.{AreBelowLocks, AreCompatible, AreRooted, AreUpgrades, CarriesUpgrades, HaveCopies, HaveCores, HaveOneSpan, ShowsContents}
use Rattle.book_rows.specs.Shape.{AreDistinct, HasChunk, all_adds, all_empties, pending_ids, same_chunk_row}
use Rattle.book_rows.specs.Sound.{Sound}
use Rattle.book_rows.specs.declared.rows.Book.{Book}
use Rattle.book_rows.specs.declared.rows.ChunkRow.{ChunkRow}
use Rattle.book_rows.specs.declared.rows.PendingRow.{PendingRow}
use Rattle.book_rows.specs.declared.rows.PosseRow.{PosseRow}
use Rattle.book_rows.specs.declared.rows.Publication.{Publication}
use Rattle.book_rows.specs.declared.rows.SegmentRow.{SegmentRow}
use Rattle.book_rows.specs.declared.rows.UpgradeRow.{UpgradeRow}
use Rattle.book_rows.specs.declared.kinds.LockKind.TheVariants as LockKinds

-- each live id has its chunk row
abbrev pub HaveLiveChunks : List ChunkRow → List SegmentRow → List PendingRow → Type 0
HaveLiveChunks cs rows ps = (a : SegId) → IsLive rows ps a → (c : ChunkRow) × In c cs × IsIn c a

-- ids of pendings are distinct
abbrev pub HaveDistinctIds : List PendingRow → Type 0
HaveDistinctIds ps = AreDistinct (λ p q. same_id p.id q.id) ps

-- the ids that publications add, and their tombstones
abbrev pub all_ids : List Publication → List SegId
all_ids pubs = all_adds pubs ++ all_empties pubs

-- no id is pending, added or a tombstone twice, or two of these
abbrev pub AreOnce : List PendingRow → List Publication → Type 0
AreOnce ps pubs = AreDistinct same_id (pending_ids ps ++ all_ids pubs)

-- each added id and each tombstone has its chunk row, with a next part above its own
abbrev pub HaveAddedChunks : List ChunkRow → List Publication → Type 0
HaveAddedChunks cs pubs = (a : SegId) → In a (all_ids pubs) → HasChunk cs a

-- versions of chunks are at most the last one
abbrev pub AreUpTo : ℤ → List ChunkRow → Type 0
AreUpTo last cs = (c : ChunkRow) → In c cs → int_le c.version last ≡ true

-- no upgrade root's span is empty
abbrev pub AreProperRoots : List UpgradeRow → Type 0
AreProperRoots us = (u : UpgradeRow) → In u us → int_lt u.root.span.start u.root.span.end ≡ true

-- an appending lock of version 0, or one of a version above 0
abbrev pub HasKindVersion : PosseRow → Type 0
HasKindVersion q = ((q.lock_kind ≡ LockKinds.Append) × (q.version ≡ pos 0)) ⊎ (int_lt (pos 0) q.version ≡ true)

-- the part of the shape that the rules on chunks need, said of each row
pub record HasChunkShape (b : Book) : Type 0 where
  pub numbers : HasDistinctNumbers b.posses
  pub below : (q : PosseRow) → In q b.posses → q.number < b.next_lock
  pub versions : (q : PosseRow) → In q b.posses → HasKindVersion q
  pub append_zero : (q : PosseRow) → In q b.posses → q.lock_kind ≡ LockKinds.Append → q.version ≡ pos 0
  pub upto : (q : PosseRow) → In q b.posses → int_le q.version b.last ≡ true
  pub one_version : (p q : PosseRow) → In p b.posses → In q b.posses → int_lt (pos 0) p.version ≡ true → p.version ≡ q.version → p ≡ q
  pub sinces : (q : PosseRow) → In q b.posses → q.since ≤ 0 + length b.publications
  pub last_low : int_le (pos 0) b.last ≡ true
  pub chunk_upto : AreUpTo b.last b.chunks
  pub chunk_rows : HaveLiveChunks b.chunks b.segments b.pendings
  pub chunk_spans : (c : ChunkRow) → In c b.chunks → int_lt c.span.start c.span.end ≡ true
  pub root_spans : (p : PendingRow) → In p b.pendings → int_lt p.root.span.start p.root.span.end ≡ true
  pub upgrade_spans : AreProperRoots b.upgrades
  pub once : AreOnce b.pendings b.publications
  pub added : HaveAddedChunks b.chunks b.publications
  pub rows : AreDistinct same_chunk_row b.chunks
  pub parts : (p : PendingRow) (c : ChunkRow) → In p b.pendings → In c b.chunks → IsIn c p.id → p.id.part < c.next

-- what holds of a book between the small changes of a command; each change keeps it
pub record AreChunksSound (b : Book) : Type 0 where
  pub shape : HasChunkShape b
  pub compatible_locks : AreCompatible b.posses
  pub one_span : HaveOneSpan b.segments b.pendings
  pub below_locks : AreBelowLocks b.posses b.segments b.pendings
  pub rooted : AreRooted b.posses b.pendings
  pub upgrades : AreUpgrades b.posses b.upgrades b.publications
  pub cores : HaveCores b.posses b.chunks b.segments b.pendings
  pub copies : HaveCopies b.chunks b.segments b.pendings
  pub carried : CarriesUpgrades b.posses b.chunks b.upgrades b.publications
  pub shown_contents : ShowsContents b.segments b.publications

-- a sound book's chunks are sound
abbrev pub SoundHasSoundChunks : Type 0
SoundHasSoundChunks = (b : Book) → Sound b → AreChunksSound b
