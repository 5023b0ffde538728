-- What the publications put at an instant and did not take away, in words; and that the test, the count and what is shown say the same.
use Rattle.std.specs.Prelude.{◌<◌, ◌≡◌, ◌≤◌, List, Some, false, true, ℕ, ℤ}
use Rattle.std.specs.Bool.{Decides}
use Rattle.iv_span.specs.Extent.{has}
use Rattle.seg_names.specs.declared.seg_id.SegId.{SegId}
use Rattle.book_rows.specs.Contents.{alive, in_contents, takes}
use Rattle.book_rows.specs.Lists.{In, at_place}
use Rattle.book_rows.specs.Sound.{Sound}
use Rattle.book_rows.specs.Visible.{shown}
use Rattle.book_rows.specs.declared.rows.Book.{Book}
use Rattle.book_rows.specs.declared.rows.Publication.{Publication}
use Rattle.laws_chunks.specs.Meaning.{HaveDistinctAdds, IsShown}

-- ---- in words

-- no publication after this place takes away, at the instant, what the one at the place added
abbrev pub IsKept : List Publication → List ℕ → ℤ → ℕ → Type 0
IsKept pubs source t place = (later : ℕ) (m : Publication) → place < later → at_place later pubs ≡ Some m → takes source t m place ≡ false

-- a publication of the source added the root, whose span has the instant, and none after it takes away there what that one added
pub record IsPut (pubs : List Publication) (source : List ℕ) (t : ℤ) (root : SegId) : Type 0 where
  pub place : ℕ
  pub publication : Publication
  pub at : at_place place pubs ≡ Some publication
  pub source_is : publication.source ≡ source
  pub in_span : has root.span t ≡ true
  pub added : In root publication.adds
  pub kept : IsKept pubs source t place

-- the test of the contents says so
abbrev pub ContentsArePut : Type 0
ContentsArePut = (pubs : List Publication) (source : List ℕ) (t : ℤ) (root : SegId) → Decides (in_contents pubs source t root) (IsPut pubs source t root)

-- ---- the test and the count

-- a root is counted once where it is in the contents, and never more often
pub record IsCountedOnce (pubs : List Publication) (source : List ℕ) (t : ℤ) (root : SegId) : Type 0 where
  pub counted : Decides (in_contents pubs source t root) (alive (λ k. true) pubs source t root ≡ 1)
  pub at_most : alive (λ k. true) pubs source t root ≤ 1

-- where no id is added twice
abbrev pub ContentsAreCounted : Type 0
ContentsAreCounted = (pubs : List Publication) → HaveDistinctAdds pubs → (source : List ℕ) (t : ℤ) (root : SegId) → IsCountedOnce pubs source t root

-- as in a sound book
abbrev pub SoundContentsAreCounted : Type 0
SoundContentsAreCounted = (b : Book) → Sound b → (source : List ℕ) (t : ℤ) (root : SegId) → IsCountedOnce b.publications source t root

-- ---- what a sound book shows

-- a visible row stands for the root exactly where the publications put it there and did not take it away, and never two rows do
pub record IsShownAsPut (b : Book) (source : List ℕ) (t : ℤ) (root : SegId) : Type 0 where
  pub put : IsShown b.segments source t root → IsPut b.publications source t root
  pub shown_there : IsPut b.publications source t root → IsShown b.segments source t root
  pub once : shown b.segments source t root ≤ 1

abbrev pub SoundShowsWhatWasPut : Type 0
SoundShowsWhatWasPut = (b : Book) → Sound b → (source : List ℕ) (t : ℤ) (root : SegId) → IsShownAsPut b source t root
