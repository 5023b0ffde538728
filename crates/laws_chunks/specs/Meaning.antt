-- What the counts of the rules say of sets: what is shown is the contents, each root once, and upgrade rows are what was added since.
use Rattle.std.specs.Prelude.{◌<◌, ◌≡◌, Bool, List, cond, false, nat_le, true, ℕ, ℤ}
use Rattle.iv_span.specs.Extent.{has}
use Rattle.seg_names.specs.Ids.{same_id}
use Rattle.seg_names.specs.declared.seg_id.SegId.{SegId}
use Rattle.book_rows.specs.Contents.{alive, in_contents, is_put_from}
use Rattle.book_rows.specs.Lists.{In}
use Rattle.book_rows.specs.Live.{IsValid, is_covered}
use Rattle.book_rows.specs.Rules.{CarriesUpgrades, ShowsContents}
use Rattle.book_rows.specs.Shape.{AreDistinct, all_adds}
use Rattle.book_rows.specs.Sound.{Sound}
use Rattle.book_rows.specs.Visible.{is_visible, shown, stands_for}
use Rattle.book_rows.specs.declared.rows.Book.{Book}
use Rattle.book_rows.specs.declared.rows.ChunkRow.{ChunkRow}
use Rattle.book_rows.specs.declared.rows.PosseRow.{PosseRow}
use Rattle.book_rows.specs.declared.rows.Publication.{Publication}
use Rattle.book_rows.specs.declared.rows.SegmentRow.{SegmentRow}
use Rattle.book_rows.specs.declared.rows.UpgradeRow.{UpgradeRow}
use Rattle.book_rows.specs.declared.kinds.LockKind.TheVariants as LockKinds

-- ---- the count of a root among the publications

-- a root is counted where publications at places that pass put it and none takes it away
abbrev pub CountMeansPut : Type 0
CountMeansPut = (pass : ℕ → Bool) (pubs : List Publication) (source : List ℕ) (t : ℤ) (root : SegId)
    → (0 < alive pass pubs source t root → is_put_from 0 pass pubs source t root ≡ true) × (is_put_from 0 pass pubs source t root ≡ true → 0 < alive pass pubs source t root)

-- no id is added twice
abbrev pub HaveDistinctAdds : List Publication → Type 0
HaveDistinctAdds pubs = AreDistinct same_id (all_adds pubs)

-- and where no id is added twice it is counted once
abbrev pub CountIsOne : Type 0
CountIsOne = (pass : ℕ → Bool) (pubs : List Publication) (source : List ℕ) (t : ℤ) (root : SegId) → HaveDistinctAdds pubs
    → alive pass pubs source t root ≡ cond (is_put_from 0 pass pubs source t root) 1 0

-- ---- what is shown

-- a visible row stands for the root
abbrev pub IsShown : List SegmentRow → List ℕ → ℤ → SegId → Type 0
IsShown rows source t root = (r : SegmentRow) × In r rows × (is_visible rows source t r ≡ true) × (stands_for root t r ≡ true)

-- the root is shown where it is one of the contents, and there by exactly one visible row
pub record IsAsContained (rows : List SegmentRow) (pubs : List Publication) (source : List ℕ) (t : ℤ) (root : SegId) : Type 0 where
  pub contained : IsShown rows source t root → in_contents pubs source t root ≡ true
  pub once : in_contents pubs source t root ≡ true → shown rows source t root ≡ 1
  pub never : in_contents pubs source t root ≡ false → shown rows source t root ≡ 0

abbrev pub ShownIsContents : Type 0
ShownIsContents = (rows : List SegmentRow) (pubs : List Publication) → HaveDistinctAdds pubs → ShowsContents rows pubs → (source : List ℕ) (t : ℤ) (root : SegId) → IsAsContained rows pubs source t root

-- a sound book shows its contents
abbrev pub SoundShowsContents : Type 0
SoundShowsContents = (b : Book) → Sound b → (source : List ℕ) (t : ℤ) (root : SegId) → IsAsContained b.segments b.publications source t root

-- ---- what a replacement has to carry

-- an upgrade row of the number has the root, whose span has the instant
abbrev pub IsCarried : List UpgradeRow → ℕ → ℤ → SegId → Type 0
IsCarried us number t root = (u : UpgradeRow) × In u us × (u.posse ≡ number) × (has root.span t ≡ true) × (u.root ≡ root)

-- one does exactly where publications since the lock put the root and none took it away
pub record IsAsAdded (us : List UpgradeRow) (pubs : List Publication) (q : PosseRow) (t : ℤ) (root : SegId) : Type 0 where
  pub added : IsCarried us q.number t root → is_put_from 0 (λ k. nat_le q.since k) pubs q.source t root ≡ true
  pub carried : is_put_from 0 (λ k. nat_le q.since k) pubs q.source t root ≡ true → IsCarried us q.number t root

-- at an instant that a valid replacing lock doesn't cover
abbrev pub CarriedAreAdded : Type 0
CarriedAreAdded = (qs : List PosseRow) (cs : List ChunkRow) (us : List UpgradeRow) (pubs : List Publication) → CarriesUpgrades qs cs us pubs
    → (q : PosseRow) (t : ℤ) (root : SegId) → IsValid qs q → q.lock_kind ≡ LockKinds.Replace → has q.span t ≡ true → is_covered cs q t ≡ false → IsAsAdded us pubs q t root
