-- The rows of a change: the used ones of a source that overlap the spans.
use Rattle.std.specs.Prelude.{◌≡◌, List, true, ℕ}
use Rattle.iv_span.specs.Extent.{Extent}
use Rattle.seg_names.specs.Ids.{same_id}
use Rattle.book_rows.specs.Lists.{In}
use Rattle.book_rows.specs.Shape.{AreDistinct, segment_ids}
use Rattle.book_rows.specs.Shown.{used_rows}
use Rattle.book_rows.specs.Spans.{overlaps_one}
use Rattle.book_rows.specs.declared.rows.SegmentRow.{SegmentRow}
use Rattle.laws_parts.specs.OneSpan.{ShareOneSpan}

-- all of them are used, and of the source
abbrev pub AreUsedOf : List SegmentRow → List ℕ → Type 0
AreUsedOf rows source = used_rows rows source ≡ rows

-- all of them are used, and of one source
abbrev pub AreOfOneSource : List SegmentRow → Type 0
AreOfOneSource rows = (source : List ℕ) × AreUsedOf rows source

-- used rows of the source with distinct ids, each of which overlaps one of the spans; those of one version that share an instant
-- have one span
pub record AreRowsOver (source : List ℕ) (spans : List Extent) (rows : List SegmentRow) : Type 0 where
  pub used : AreUsedOf rows source
  pub over : (r : SegmentRow) → In r rows → overlaps_one spans r.id.span ≡ true
  pub distinct : AreDistinct same_id (segment_ids rows)
  pub one_span : ShareOneSpan rows source
