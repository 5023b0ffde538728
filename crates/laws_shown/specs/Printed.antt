-- What the printed timeline and contents say of each instant that they cover.
use Rattle.std.specs.Prelude.{◌&&◌, ◌≡◌, Bool, List, int_le, not, true, ℕ, ℤ}
use Rattle.std.specs.Bool.{Decides}
use Rattle.std.specs.List.{list_any}
use Rattle.iv_span.specs.Extent.{has}
use Rattle.seg_names.specs.declared.seg_id.SegId.{SegId}
use Rattle.book_rows.specs.Ids.{id_before}
use Rattle.book_rows.specs.Lists.{In, gathered, list_links}
use Rattle.book_rows.specs.Shown.{ChunkPart, agree, chunk_part, contents_of, ids_shown, join_parts, roots_agree, roots_at, source_pieces, timeline_of}
use Rattle.book_rows.specs.Sound.{Sound}
use Rattle.book_rows.specs.Visible.{visible}
use Rattle.book_rows.specs.declared.replies.ContentsPart.{ContentsPart}
use Rattle.book_rows.specs.declared.replies.TimelinePart.{TimelinePart}
use Rattle.book_rows.specs.declared.rows.Book.{Book}
use Rattle.book_rows.specs.declared.rows.SegmentRow.{SegmentRow}
use Rattle.laws_shown.specs.History.{IsPut}

-- ---- the timeline

-- some row is visible at the instant
abbrev pub IsSomeVisible : List SegmentRow → List ℕ → ℤ → Type 0
IsSomeVisible rows source t = (r : SegmentRow) × In r (visible rows source t)

-- the part gives the version and the ids of the rows that are visible at the instant
pub record IsTimelineAt (rows : List SegmentRow) (source : List ℕ) (p : TimelinePart) (t : ℤ) : Type 0 where
  pub version_is : (r : SegmentRow) → In r (visible rows source t) → r.id.version ≡ p.version
  pub ids_are : p.ids ≡ ids_shown (visible rows source t)

-- each part does at each of its instants, and the parts have exactly the instants at which something is visible
pub record IsTimeline (rows : List SegmentRow) (source : List ℕ) : Type 0 where
  pub parts : (p : TimelinePart) (t : ℤ) → In p (timeline_of rows source) → has p.span t ≡ true → IsTimelineAt rows source p t
  pub covers : (t : ℤ) → Decides (list_any (λ p. has p.span t) (timeline_of rows source)) (IsSomeVisible rows source t)

abbrev pub TimelineIsOfEachInstant : Type 0
TimelineIsOfEachInstant = (rows : List SegmentRow) (source : List ℕ) → IsTimeline rows source

-- ---- the contents

-- each part gives the roots that the visible rows stand for at each of its instants, and the parts have exactly the instants with such roots
pub record AreContents (rows : List SegmentRow) (source : List ℕ) : Type 0 where
  pub parts : (p : ContentsPart) (t : ℤ) → In p (contents_of rows source) → has p.span t ≡ true → p.roots ≡ roots_at (visible rows source t) t
  pub covers : (t : ℤ) → Decides (list_any (λ p. has p.span t) (contents_of rows source)) ((root : SegId) × In root (roots_at (visible rows source t) t))

abbrev pub ContentsAreOfEachInstant : Type 0
ContentsAreOfEachInstant = (rows : List SegmentRow) (source : List ℕ) → AreContents rows source

-- ---- the order of what is printed

-- the ids of rows, and the roots that rows stand for at an instant, stand in id order, each once
abbrev pub PrintsInOrder : Type 0
PrintsInOrder = (rows : List SegmentRow) (t : ℤ) → (list_links id_before (ids_shown rows) ≡ true) × (list_links id_before (roots_at rows t) ≡ true)

-- the parts of which the timeline is printed
abbrev pub chunk_parts : List SegmentRow → List ℕ → List ChunkPart
chunk_parts rows source = join_parts (gathered (λ e. chunk_part e (visible rows source e.start)) (source_pieces rows source))

-- the second part doesn't start before the end of the first
abbrev pub is_after : TimelinePart → TimelinePart → Bool
is_after p q = int_le p.span.end q.span.start

-- and where they touch they differ: in chunk, version or ids, or in roots
abbrev pub is_next_chunk : ChunkPart → ChunkPart → Bool
is_next_chunk p q = int_le p.span.end q.span.start && not (agree p q)

abbrev pub is_next_part : ContentsPart → ContentsPart → Bool
is_next_part p q = int_le p.span.end q.span.start && not (roots_agree p q)

-- so the parts ascend, don't overlap, and are as long as they can be
abbrev pub PartsAscend : Type 0
PartsAscend = (rows : List SegmentRow) (source : List ℕ)
    → (list_links is_after (timeline_of rows source) ≡ true) × (list_links is_next_chunk (chunk_parts rows source) ≡ true) × (list_links is_next_part (contents_of rows source) ≡ true)

-- ---- of a sound book they say what the publications put there and did not take away

-- what a part of the timeline shows at an instant: the roots of the rows that it names, whose own span has the instant
abbrev pub DoesShow : List SegmentRow → TimelinePart → ℤ → SegId → Type 0
DoesShow rows p t root = (r : SegmentRow) × In r rows × In r.id p.ids × (r.root ≡ root) × (has root.span t ≡ true)

-- a part shows the root at the instant exactly where the publications put it there and did not take it away, and then one part does, by one row
pub record IsTimelinePut (b : Book) (source : List ℕ) (t : ℤ) (root : SegId) : Type 0 where
  pub put : (p : TimelinePart) → In p (timeline_of b.segments source) → has p.span t ≡ true → DoesShow b.segments p t root → IsPut b.publications source t root
  pub printed : IsPut b.publications source t root → (p : TimelinePart) × In p (timeline_of b.segments source) × (has p.span t ≡ true) × DoesShow b.segments p t root
  pub once : (p q : TimelinePart) → In p (timeline_of b.segments source) → In q (timeline_of b.segments source) → has p.span t ≡ true → has q.span t ≡ true
      → (x : DoesShow b.segments p t root) (y : DoesShow b.segments q t root) → (p ≡ q) × (x.0 ≡ y.0)

abbrev pub SoundTimelineIsWhatWasPut : Type 0
SoundTimelineIsWhatWasPut = (b : Book) → Sound b → (source : List ℕ) (t : ℤ) (root : SegId) → IsTimelinePut b source t root

-- a part lists it at the instant exactly there, and then one part does
pub record IsContentsPut (b : Book) (source : List ℕ) (t : ℤ) (root : SegId) : Type 0 where
  pub put : (p : ContentsPart) → In p (contents_of b.segments source) → has p.span t ≡ true → In root p.roots → IsPut b.publications source t root
  pub printed : IsPut b.publications source t root → (p : ContentsPart) × In p (contents_of b.segments source) × (has p.span t ≡ true) × In root p.roots
  pub once : (p q : ContentsPart) → In p (contents_of b.segments source) → In q (contents_of b.segments source) → has p.span t ≡ true → has q.span t ≡ true → In root p.roots → In root q.roots → p ≡ q

abbrev pub SoundContentsAreWhatWasPut : Type 0
SoundContentsAreWhatWasPut = (b : Book) → Sound b → (source : List ℕ) (t : ℤ) (root : SegId) → IsContentsPut b source t root
