-- A change of the kept parts is the change of the timeline.
use Rattle.std.specs.Prelude.{◌&&◌, ◌≡◌, List, bytes_eq, false, filter, map, ℕ, ℤ}
use Rattle.iv_span.specs.Condensed.{has_any}
use Rattle.iv_span.specs.Extent.{Extent}
use Rattle.book_rows.specs.Shown.{ChunkPart, timeline_of, timeline_part}
use Rattle.book_rows.specs.Spans.{overlaps_one}
use Rattle.book_rows.specs.declared.rows.SegmentRow.{SegmentRow}
use Rattle.laws_shown.specs.Printed.{chunk_parts}
use Rattle.laws_parts.specs.Laws.{chunk_at}
use Rattle.timeline_kept.specs.Shown.{AreShown, given_over, shown_at}

-- the used rows of the source that overlap one of the spans
abbrev pub rows_over : List ℕ → List Extent → List SegmentRow → List SegmentRow
rows_over source spans rows = filter (λ r. r.used && bytes_eq r.id.source source && overlaps_one spans r.id.span) rows

-- outside of the spans the same chunk is visible before and after
abbrev pub ChangesIn : List Extent → List SegmentRow → List SegmentRow → List ℕ → Type 0
ChangesIn spans before after source = (t : ℤ) → has_any spans t ≡ false → chunk_at after source t ≡ chunk_at before source t

-- parts that were those of the timeline and now show, in the spans, what the rows over them give, are those of the timeline after
abbrev pub ChangedIsTimeline : Type 0
ChangedIsTimeline = (before after : List SegmentRow) (source : List ℕ) (spans : List Extent) (new : List ChunkPart) → ChangesIn spans before after source
    → AreShown (given_over spans (chunk_at (rows_over source spans after) source) (shown_at (chunk_parts before source))) new → (new ≡ chunk_parts after source) × (timeline_of after source ≡ map timeline_part new)
