-- The chunks of the used rows of a source, and their ids.
use Rattle.std.specs.Prelude.{◌&&◌, ◌||◌, ◌∷◌, ◌≡◌, Bool, List, [], false, filter, int_lt, map, not, true}
use Rattle.std.specs.Ordering.{int_eq}
use Rattle.seg_names.specs.Ids.{same_extent, same_id}
use Rattle.seg_names.specs.declared.seg_id.SegId.{SegId}
use Rattle.book_rows.specs.Ids.{id_before}
use Rattle.book_rows.specs.Lists.{In, list_links}
use Rattle.book_rows.specs.declared.replies.TimelinePart.{TimelinePart}
use Rattle.book_rows.specs.declared.rows.SegmentRow.{SegmentRow}
use Rattle.timeline_view.specs.Sweep.{stretch_span}
use Rattle.timeline_view.specs.declared.sweep.Cover.{Cover}
use Rattle.timeline_view.specs.declared.sweep.Stretch.{Stretch}

abbrev pub cover_of : SegmentRow → Cover
cover_of r = record { version = r.id.version; span = r.id.span }

-- the chunks of rows, once for each row
abbrev pub covers_of : List SegmentRow → List Cover
covers_of rows = map cover_of rows

-- the ids of rows that aren't tombstones, in row order
abbrev pub named_ids : List SegmentRow → List SegId
named_ids rows = map (λ r. r.id) (filter (λ r. not r.tombstone) rows)

-- the ids of the chunk's rows without tombstones, in id order, each once
pub record AreChunkIds (rows : List SegmentRow) (c : Cover) (ids : List SegId) : Type 0 where
  pub linked : list_links id_before ids ≡ true
  pub from : (a : SegId) → In a ids → (r : SegmentRow) × In r rows × (not r.tombstone ≡ true) × (r.id ≡ a) × (cover_of r ≡ c)
  pub all : (r : SegmentRow) → In r rows → not r.tombstone ≡ true → cover_of r ≡ c → In r.id ids

-- the part that is printed of a stretch
pub record IsPartOf (rows : List SegmentRow) (p : Stretch) (q : TimelinePart) : Type 0 where
  pub span_is : q.span ≡ stretch_span p
  pub version_is : q.version ≡ p.top.version
  pub ids_are : AreChunkIds rows p.top q.ids

abbrev pub ArePartsOf : List SegmentRow → List Stretch → List TimelinePart → Type 0
ArePartsOf rows [] [] = Unit {0}
ArePartsOf rows (p ∷ ps) (q ∷ qs) = IsPartOf rows p q × ArePartsOf rows ps qs
ArePartsOf rows [] (q ∷ qs) = ⊥
ArePartsOf rows (p ∷ ps) [] = ⊥

-- ---- ids of one chunk among all

-- in id order the ids of one source stand by span and version
abbrev pub HaveOneSource : List SegId → Type 0
HaveOneSource ids = (a b : SegId) → In a ids → In b ids → a.source ≡ b.source

-- an id that stands before those of the chunk
abbrev pub is_before : Cover → SegId → Bool
is_before c a = int_lt a.span.start c.span.start || (int_eq a.span.start c.span.start && (int_lt a.span.end c.span.end || (int_eq a.span.end c.span.end && int_lt a.version c.version)))

abbrev pub is_in : Cover → SegId → Bool
is_in c a = int_eq c.version a.version && same_extent c.span a.span

abbrev pub last_is : List SegId → SegId → Bool
last_is [] a = false
last_is (b ∷ []) a = same_id b a
last_is (b ∷ c ∷ ids) a = last_is (c ∷ ids) a

-- those of the ids that pass the test, in id order, each once
pub record AreIdsIn (test : SegId → Bool) (ids found : List SegId) : Type 0 where
  pub linked : list_links id_before found ≡ true
  pub from : (a : SegId) → In a found → In a ids × (test a ≡ true)
  pub all : (a : SegId) → In a ids → test a ≡ true → In a found
