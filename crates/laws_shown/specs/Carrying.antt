-- What a replacement has to carry: the roots that it reads and its upgrade rows split what the lock's span contains.
use Rattle.std.specs.Prelude.{◌<◌, ◌≡◌, ◌≤◌, ◌⊎◌, List, false, true, ℤ}
use Rattle.iv_span.specs.Extent.{has}
use Rattle.seg_names.specs.declared.seg_id.SegId.{SegId}
use Rattle.book_rows.specs.Carried.{to_replace}
use Rattle.book_rows.specs.Ids.{id_before}
use Rattle.book_rows.specs.Lists.{In, list_links}
use Rattle.book_rows.specs.Live.{IsValid, is_covered}
use Rattle.book_rows.specs.Rules.{upgraded}
use Rattle.book_rows.specs.Sound.{Sound}
use Rattle.book_rows.specs.declared.rows.Book.{Book}
use Rattle.book_rows.specs.declared.rows.PosseRow.{PosseRow}
use Rattle.book_rows.specs.declared.rows.Publication.{Publication}
use Rattle.book_rows.specs.declared.rows.SegmentRow.{SegmentRow}
use Rattle.book_rows.specs.declared.kinds.LockKind.TheVariants as LockKinds
use Rattle.laws_chunks.specs.Meaning.{IsCarried}
use Rattle.laws_shown.specs.History.{IsPut}

-- ---- what is read

-- at an instant of the lock's span the publications put the root, one from before the lock was made, and did not take it away
pub record IsToRead (pubs : List Publication) (q : PosseRow) (root : SegId) : Type 0 where
  pub instant : ℤ
  pub in_span : has q.span instant ≡ true
  pub put : IsPut pubs q.source instant root
  pub before : put.place < q.since

-- the list has exactly these roots
pub record IsReadList (b : Book) (q : PosseRow) (roots : List SegId) : Type 0 where
  pub each_is : (root : SegId) → In root roots → IsToRead b.publications q root
  pub has_each : (root : SegId) → IsToRead b.publications q root → In root roots

abbrev pub SoundReadsWhatWasThere : Type 0
SoundReadsWhatWasThere = (b : Book) → Sound b → (q : PosseRow) → IsReadList b q (to_replace b.segments b.publications q)

-- it is in id order, so it has each once
abbrev pub ReadsInOrder : Type 0
ReadsInOrder = (rows : List SegmentRow) (pubs : List Publication) (q : PosseRow) → list_links id_before (to_replace rows pubs q) ≡ true

-- ---- what is read and what is carried

-- of the contents at the instant each root is read or has an upgrade row of the lock, and not both; each root of such a row is of the contents, and has one such row
pub record IsSplit (b : Book) (q : PosseRow) (t : ℤ) (root : SegId) : Type 0 where
  pub none_lost : IsPut b.publications q.source t root → In root (to_replace b.segments b.publications q) ⊎ IsCarried b.upgrades q.number t root
  pub none_twice : In root (to_replace b.segments b.publications q) → IsCarried b.upgrades q.number t root → ⊥
  pub carried_is_there : IsCarried b.upgrades q.number t root → IsPut b.publications q.source t root
  pub carried_once : upgraded b.upgrades q.number t root ≤ 1

-- at each instant that a valid replacing lock doesn't cover yet
abbrev pub SoundSplitsContents : Type 0
SoundSplitsContents = (b : Book) → Sound b → (q : PosseRow) → IsValid b.posses q → q.lock_kind ≡ LockKinds.Replace
    → (t : ℤ) → has q.span t ≡ true → is_covered b.chunks q t ≡ false → (root : SegId) → IsSplit b q t root
