-- The soundness rules on locks, chunks, pendings, upgrade rows and what is shown. Each reads only the tables that it names.
use Rattle.std.specs.Prelude.{◌&&◌, ◌+◌, ◌<◌, ◌==◌, ◌∷◌, ◌≡◌, ◌≤◌, ◌⊎◌, List, [], false, int_le, int_lt, nat_le, pos, true, ℕ, ℤ}
use Rattle.iv_span.specs.Extent.{covers, has, overlap}
use Rattle.seg_names.specs.Ids.{same_id}
use Rattle.seg_names.specs.declared.seg_id.SegId.{SegId}
use Rattle.book_rows.specs.Contents.{alive}
use Rattle.book_rows.specs.Ids.{same_chunk}
use Rattle.book_rows.specs.Kinds.{guards}
use Rattle.book_rows.specs.Lists.{In, Pairs, count}
use Rattle.book_rows.specs.Live.{DoMeet, IsIn, IsLive, IsOwner, IsValid, IsWhole, is_covered}
use Rattle.book_rows.specs.Locks.{compatible}
use Rattle.book_rows.specs.Visible.{shown}
use Rattle.book_rows.specs.declared.rows.ChunkRow.{ChunkRow}
use Rattle.book_rows.specs.declared.rows.PendingRow.{PendingRow}
use Rattle.book_rows.specs.declared.rows.PosseRow.{PosseRow}
use Rattle.book_rows.specs.declared.rows.Publication.{Publication}
use Rattle.book_rows.specs.declared.rows.SegmentRow.{SegmentRow}
use Rattle.book_rows.specs.declared.rows.UpgradeRow.{UpgradeRow}
use Rattle.book_rows.specs.declared.kinds.LockKind.TheVariants as LockKinds

-- ---- locks

-- two locks, if both are valid, may be valid at once
abbrev pub GoTogether : PosseRow → PosseRow → Type 0
GoTogether p q = p.revoked ≡ false → q.revoked ≡ false → compatible p q ≡ true

-- any two valid locks are compatible
abbrev pub AreCompatible : List PosseRow → Type 0
AreCompatible ps = Pairs GoTogether ps

-- ---- live chunks

-- two live chunks of one version that overlap are one chunk
abbrev pub HaveOneSpan : List SegmentRow → List PendingRow → Type 0
HaveOneSpan rows ps = (a b : SegId) → IsLive rows ps a → IsLive rows ps b → DoMeet a b → a.version ≡ b.version → a.span ≡ b.span

-- a live chunk that overlaps a valid exclusive or replacing lock has at most its version
abbrev pub AreBelowLocks : List PosseRow → List SegmentRow → List PendingRow → Type 0
AreBelowLocks qs rows ps = (a : SegId) (q : PosseRow) → IsLive rows ps a → IsValid qs q → guards q.lock_kind ≡ true → a.source ≡ q.source → overlap a.span q.span ≡ true → int_le a.version q.version ≡ true

-- ---- pendings and upgrade rows

-- the root of a pending is a root pending of the same lock, sequence and previous id
pub record HasRoot (ps : List PendingRow) (p : PendingRow) : Type 0 where
  pub root : PendingRow
  pub among : In root ps
  pub is_root : root.id ≡ root.root
  pub root_is : root.id ≡ p.root
  pub posse_is : root.posse ≡ p.posse
  pub sequence_is : root.sequence ≡ p.sequence
  pub previous_is : root.previous ≡ p.previous

-- its lock is valid, of its source, and contains the root's span
pub record HasPosse (qs : List PosseRow) (p : PendingRow) : Type 0 where
  pub posse : PosseRow
  pub is_valid : IsValid qs posse
  pub number_is : posse.number ≡ p.posse
  pub source_is : posse.source ≡ p.id.source
  pub covers_root : covers posse.span p.root.span ≡ true

-- a copy's chunk contains the root's span and has a greater version
pub record IsCopy (p : PendingRow) : Type 0 where
  pub covers_root : covers p.id.span p.root.span ≡ true
  pub above : int_lt p.root.version p.id.version ≡ true

pub record IsRooted (qs : List PosseRow) (ps : List PendingRow) (p : PendingRow) : Type 0 where
  pub has_root : HasRoot ps p
  pub has_posse : HasPosse qs p
  pub kind_is : (p.id ≡ p.root) ⊎ IsCopy p

abbrev pub AreRooted : List PosseRow → List PendingRow → Type 0
AreRooted qs ps = (p : PendingRow) → In p ps → IsRooted qs ps p

-- a publication from this place on adds the id; the first of the list has place k
abbrev pub IsAddedSince : ℕ → ℕ → List Publication → SegId → Type 0
IsAddedSince since k [] a = ⊥
IsAddedSince since k (m ∷ ms) a = ((since ≤ k) × In a m.adds) ⊎ IsAddedSince since (k + 1) ms a

-- an upgrade row is of a valid replacing lock that contains its root's span, and its root was added since
pub record IsUpgrade (qs : List PosseRow) (pubs : List Publication) (u : UpgradeRow) : Type 0 where
  pub posse : PosseRow
  pub is_valid : IsValid qs posse
  pub number_is : posse.number ≡ u.posse
  pub kind_is : posse.lock_kind ≡ LockKinds.Replace
  pub covers_root : covers posse.span u.root.span ≡ true
  pub added : IsAddedSince posse.since 0 pubs u.root

abbrev pub AreUpgrades : List PosseRow → List UpgradeRow → List Publication → Type 0
AreUpgrades qs us pubs = (u : UpgradeRow) → In u us → IsUpgrade qs pubs u

-- ---- cores

-- a chunk that is live or of a valid lock's version is whole; what core a lock's kind allows; where such a chunk lies
pub record HaveCores (qs : List PosseRow) (cs : List ChunkRow) (rows : List SegmentRow) (ps : List PendingRow) : Type 0 where
  pub live : (c : ChunkRow) (a : SegId) → In c cs → IsLive rows ps a → IsIn c a → IsWhole rows c
  pub owned : (c : ChunkRow) (q : PosseRow) → In c cs → IsOwner qs c q → IsWhole rows c
  pub zero_version : (c : ChunkRow) → In c cs → c.version ≡ pos 0 → c.core ≡ 0
  pub shared : (c : ChunkRow) (q : PosseRow) → In c cs → IsOwner qs c q → q.lock_kind ≡ LockKinds.Shared → c.core ≡ 0
  pub replace : (c : ChunkRow) (q : PosseRow) → In c cs → IsOwner qs c q → q.lock_kind ≡ LockKinds.Replace → 0 < c.core
  pub within : (c : ChunkRow) (q : PosseRow) → In c cs → IsOwner qs c q → int_lt (pos 0) c.version ≡ true → covers q.span c.span ≡ true

-- ---- chunks above others

-- a live chunk above one that it overlaps has a core, and contains it and has one copy of each of its root pendings
pub record HaveCopies (cs : List ChunkRow) (rows : List SegmentRow) (ps : List PendingRow) : Type 0 where
  pub cores : (a b : SegId) (d : ChunkRow) → IsLive rows ps a → IsLive rows ps b → DoMeet a b → int_lt a.version b.version ≡ true → In d cs → IsIn d b → 0 < d.core
  pub contains : (r : PendingRow) (b : SegId) → In r ps → r.id ≡ r.root → IsLive rows ps b → DoMeet r.id b → int_lt r.id.version b.version ≡ true → covers b.span r.id.span ≡ true
  pub copies : (r : PendingRow) (b : SegId) → In r ps → r.id ≡ r.root → IsLive rows ps b → DoMeet r.id b → int_lt r.id.version b.version ≡ true → count (λ x. same_chunk x.id b && same_id x.root r.id) ps ≡ 1

-- ---- what a replacement has to carry

-- how many upgrade rows of the number have the root, where its span has the instant
abbrev pub upgraded : List UpgradeRow → ℕ → ℤ → SegId → ℕ
upgraded us number t root = count (λ u. (u.posse == number) && (has root.span t && same_id u.root root)) us

-- at an instant that a valid replacing lock doesn't cover, its upgrade rows are what was added since and is there
abbrev pub CarriesUpgrades : List PosseRow → List ChunkRow → List UpgradeRow → List Publication → Type 0
CarriesUpgrades qs cs us pubs = (q : PosseRow) (t : ℤ) (root : SegId) → IsValid qs q → q.lock_kind ≡ LockKinds.Replace → has q.span t ≡ true → is_covered cs q t ≡ false
    → upgraded us q.number t root ≡ alive (λ k. nat_le q.since k) pubs q.source t root

-- ---- what is shown

-- what is shown at each instant is what the publications put there and did not take away, each root once
abbrev pub ShowsContents : List SegmentRow → List Publication → Type 0
ShowsContents rows pubs = (source : List ℕ) (t : ℤ) (root : SegId) → shown rows source t root ≡ alive (λ k. true) pubs source t root
