-- One root with its copies is appended.
use Rattle.std.specs.Prelude.{◌+◌, ◌++◌, ◌∷◌, ◌≡◌, ◌≤◌, ◌⊎◌, List, [], length, true, ℕ}
use Rattle.iv_span.specs.Extent.{Extent, covers, overlap}
use Rattle.seg_names.specs.declared.seg_id.SegId.{SegId}
use Rattle.book_rows.specs.Append.{rows_of_root, without_root}
use Rattle.book_rows.specs.Lists.{In}
use Rattle.book_rows.specs.Live.{IsValid}
use Rattle.book_rows.specs.declared.rows.Book.{Book}
use Rattle.book_rows.specs.declared.rows.ChunkRow.{ChunkRow}
use Rattle.book_rows.specs.declared.rows.PendingRow.{PendingRow}
use Rattle.book_rows.specs.declared.rows.PosseRow.{PosseRow}
use Rattle.book_rows.specs.declared.rows.Publication.{Publication}
use Rattle.book_rows.specs.declared.rows.UpgradeRow.{UpgradeRow}
use Rattle.book_rows.specs.declared.kinds.LockKind.TheVariants as LockKinds
use Rattle.laws_chunks.specs.ChunksSound.{AreChunksSound}
use Rattle.laws_chunks.specs.Growing.{appended, building}

-- ---- the upgrade row of an appended root

-- a chunk of the lock's source and version that overlaps the span
pub record IsTaken (cs : List ChunkRow) (q : PosseRow) (s : Extent) : Type 0 where
  pub chunk : ChunkRow
  pub among : In chunk cs
  pub source_is : chunk.source ≡ q.source
  pub version_is : chunk.version ≡ q.version
  pub meets : overlap chunk.span s ≡ true

-- a valid replacing lock of the root's source that contains the root's span
pub record IsReplacing (qs : List PosseRow) (r : SegId) (q : PosseRow) : Type 0 where
  pub is_valid : IsValid qs q
  pub kind_is : q.lock_kind ≡ LockKinds.Replace
  pub source_is : q.source ≡ r.source
  pub covers_root : covers q.span r.span ≡ true

-- one, where a replacing lock contains the root and has no chunk there
pub record HasUpgrade (qs : List PosseRow) (cs : List ChunkRow) (r : SegId) (new : List UpgradeRow) : Type 0 where
  pub posse : PosseRow
  pub replacing : IsReplacing qs r posse
  pub free : IsTaken cs posse r.span → ⊥
  pub new_is : new ≡ record { posse = posse.number; root = r } ∷ []

-- none, where each such lock has a chunk there
pub record HasNoUpgrade (qs : List PosseRow) (cs : List ChunkRow) (r : SegId) (new : List UpgradeRow) : Type 0 where
  pub taken : (q : PosseRow) → IsReplacing qs r q → IsTaken cs q r.span
  pub new_is : new ≡ []

abbrev pub AreNewUpgrades : List PosseRow → List ChunkRow → SegId → List UpgradeRow → Type 0
AreNewUpgrades qs cs r new = HasUpgrade qs cs r new ⊎ HasNoUpgrade qs cs r new

-- ---- the append

-- a root pending of the publication's source; no valid lock was made after the publication began
pub record IsAppend (b : Book) (ms : List Publication) (m : Publication) (r : PendingRow) (new : List UpgradeRow) : Type 0 where
  pub among : In r b.pendings
  pub is_root : r.id ≡ r.root
  pub source_is : m.source ≡ r.id.source
  pub made : AreNewUpgrades b.posses b.chunks r.id new
  pub sinces : (q : PosseRow) → IsValid b.posses q → q.since ≤ 0 + length ms

abbrev pub root_appended : ℕ → List Publication → Publication → PendingRow → List UpgradeRow → Book → Book
root_appended k ms m r new b = record b {
  segments = b.segments ++ rows_of_root k r.id b.pendings;
  pendings = without_root r.id b.pendings;
  upgrades = b.upgrades ++ new;
  publications = ms ++ appended r.id m ∷ [];
}

abbrev pub AppendKeeps : Type 0
AppendKeeps = (k : ℕ) (ms : List Publication) (m : Publication) (r : PendingRow) (new : List UpgradeRow) (b : Book) → IsAppend b ms m r new → AreChunksSound (building ms m b) → AreChunksSound (root_appended k ms m r new b)
