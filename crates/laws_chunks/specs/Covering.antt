-- One span is inserted or replaced: a new chunk comes above all that it meets, with its segments and with copies of the root pendings there.
use Rattle.std.specs.Prelude.{◌+◌, ◌++◌, ◌<◌, ◌∷◌, ◌≡◌, ◌≤◌, List, [], false, filter, int_lt, not, true, ℕ}
use Rattle.iv_span.specs.Extent.{Extent, covers, overlap}
use Rattle.seg_names.specs.Ids.{same_id}
use Rattle.seg_names.specs.declared.seg_id.SegId.{SegId}
use Rattle.book_rows.specs.Ids.{is_of_span}
use Rattle.book_rows.specs.Lists.{In}
use Rattle.book_rows.specs.Live.{IsIn, IsValid, IsWhole}
use Rattle.book_rows.specs.Rewrite.{copies_for, how_many, is_taken_up, own_rows}
use Rattle.book_rows.specs.Shape.{AreDistinct}
use Rattle.book_rows.specs.declared.answers.Copies.{Copies}
use Rattle.book_rows.specs.declared.rows.Book.{Book}
use Rattle.book_rows.specs.declared.rows.ChunkRow.{ChunkRow}
use Rattle.book_rows.specs.declared.rows.PendingRow.{PendingRow}
use Rattle.book_rows.specs.declared.rows.PosseRow.{PosseRow}
use Rattle.book_rows.specs.declared.rows.Publication.{Publication}
use Rattle.book_rows.specs.declared.rows.UpgradeRow.{UpgradeRow}
use Rattle.book_rows.specs.declared.kinds.LockKind.TheVariants as LockKinds
use Rattle.book_rows.specs.declared.kinds.PubKind.TheVariants as PubKinds
use Rattle.laws_chunks.specs.Appending.{IsTaken}
use Rattle.laws_chunks.specs.ChunksSound.{AreChunksSound}
use Rattle.laws_chunks.specs.Growing.{IsApart, building, grown}

-- ---- one span under a valid lock of the publication's source, filled with a whole set of ids, or with a tombstone

-- the chunk is of the lock's version and within its span, where no chunk of that version is; its ids and tombstones are its own, are distinct, and give its core
pub record IsSpan (b : Book) (m : Publication) (p : PosseRow) (d : ChunkRow) (k : ℕ) (ids tombs : List SegId) : Type 0 where
  pub is_valid : IsValid b.posses p
  pub from : p.source ≡ m.source
  pub source_is : d.source ≡ p.source
  pub version_is : d.version ≡ p.version
  pub within : covers p.span d.span ≡ true
  pub proper : int_lt d.span.start d.span.end ≡ true
  pub free : IsTaken b.chunks p d.span → ⊥
  pub apart : IsApart d.span m
  pub ids_of : (a : SegId) → In a (filter (is_of_span d.span) ids) → IsIn d a
  pub tombs_of : (a : SegId) → In a (filter (is_of_span d.span) tombs) → IsIn d a
  pub distinct : AreDistinct same_id (filter (is_of_span d.span) ids ++ filter (is_of_span d.span) tombs)
  pub parts : (a : SegId) → In a (filter (is_of_span d.span) ids ++ filter (is_of_span d.span) tombs) → a.part < d.core
  pub next_low : d.core ≤ d.next
  pub has_core : 0 < d.core
  pub whole : IsWhole (own_rows k ids tombs d.span) d

-- the publication with the span, and with those of the ids and tombstones that are of it
abbrev pub span_grown : Extent → ℕ → List SegId → List SegId → Publication → Publication
span_grown s since ids tombs m = grown (filter (is_of_span s) ids) (record { span = s; since = since } ∷ []) (filter (is_of_span s) tombs) m

-- ---- an insert

-- under an exclusive lock, where no pending is
pub record IsInsert (b : Book) (m : Publication) (p : PosseRow) (d : ChunkRow) (k : ℕ) (ids tombs : List SegId) : Type 0 where
  pub span : IsSpan b m p d k ids tombs
  pub is_over : m.kind ≡ PubKinds.Over
  pub kind_is : p.lock_kind ≡ LockKinds.Exclusive
  pub no_pending : (x : PendingRow) → In x b.pendings → x.id.source ≡ d.source → overlap x.id.span d.span ≡ false

abbrev pub span_inserted : List Publication → Publication → ChunkRow → ℕ → List SegId → List SegId → Book → Book
span_inserted ms m d k ids tombs b = record b {
  chunks = b.chunks ++ d ∷ [];
  segments = b.segments ++ own_rows k ids tombs d.span;
  publications = ms ++ span_grown d.span 0 ids tombs m ∷ [];
}

abbrev pub InsertKeeps : Type 0
InsertKeeps = (k : ℕ) (ms : List Publication) (m : Publication) (p : PosseRow) (d : ChunkRow) (ids tombs : List SegId) (b : Book) → IsInsert b m p d k ids tombs → AreChunksSound (building ms m b) → AreChunksSound (span_inserted ms m d k ids tombs b)

-- ---- a replacement

-- the copies of the lock's upgrade roots and of the root pendings within the chunk's span, numbered on from its core
abbrev pub span_copies : Book → PosseRow → ChunkRow → ℕ → Copies
span_copies b p d k = copies_for b.pendings b.upgrades p.number d.source d.span d.version d.core k

-- under a replacing lock; what meets the span lies within it
pub record IsReplace (b : Book) (m : Publication) (p : PosseRow) (d : ChunkRow) (k : ℕ) (ids tombs : List SegId) : Type 0 where
  pub span : IsSpan b m p d k ids tombs
  pub is_replace : m.kind ≡ PubKinds.Replace
  pub kind_is : p.lock_kind ≡ LockKinds.Replace
  pub roots_within : (r : PendingRow) → In r b.pendings → r.id ≡ r.root → r.id.source ≡ d.source → overlap r.id.span d.span ≡ true → covers d.span r.id.span ≡ true
  pub upgrades_within : (u : UpgradeRow) → In u b.upgrades → u.posse ≡ p.number → overlap u.root.span d.span ≡ true → covers d.span u.root.span ≡ true
  pub next_is : d.next ≡ d.core + how_many (span_copies b p d k)

abbrev pub upgrades_left : ℕ → Extent → List UpgradeRow → List UpgradeRow
upgrades_left number s us = filter (λ u. not (is_taken_up number s u)) us

abbrev pub span_replaced : List Publication → Publication → PosseRow → ChunkRow → ℕ → List SegId → List SegId → Book → Book
span_replaced ms m p d k ids tombs b = record b {
  chunks = b.chunks ++ d ∷ [];
  segments = b.segments ++ (own_rows k ids tombs d.span ++ (span_copies b p d k).segments);
  pendings = b.pendings ++ (span_copies b p d k).pendings;
  upgrades = upgrades_left p.number d.span b.upgrades;
  publications = ms ++ span_grown d.span p.since ids tombs m ∷ [];
}

abbrev pub ReplaceKeeps : Type 0
ReplaceKeeps = (k : ℕ) (ms : List Publication) (m : Publication) (p : PosseRow) (d : ChunkRow) (ids tombs : List SegId) (b : Book) → IsReplace b m p d k ids tombs → AreChunksSound (building ms m b) → AreChunksSound (span_replaced ms m p d k ids tombs b)
