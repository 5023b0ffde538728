-- What the table of segments means, and what its calls answer of it.
use Rattle.std.specs.Prelude.{◌&&◌, Bool, List, Option, cond, find, not, ℕ, ℤ}
use Rattle.std.specs.Option.{option_map}
use Rattle.iv_span.specs.Extent.{Extent, covers}
use Rattle.seg_names.specs.Ids.{same_id}
use Rattle.seg_names.specs.declared.seg_id.SegId.{SegId}
use Rattle.book_rows.specs.Allocation.{is_cut_by, is_of_chunk}
use Rattle.book_rows.specs.Visible.{is_used_over, is_visible}
use Rattle.book_rows.specs.declared.rows.ChunkRow.{ChunkRow}
use Rattle.book_rows.specs.declared.rows.SegmentRow.{SegmentRow}

-- the chunks and the segments, each in row order
pub record SegmentRows : Type 0 where
  pub chunks : List ChunkRow
  pub segments : List SegmentRow

-- a chunk is named by its part 0
abbrev pub chunk_id : List ℕ → Extent → ℤ → SegId
chunk_id source span version = record { source = source; span = span; version = version; part = 0 }

-- the chunk of the id gives this part next
abbrev pub with_next : SegId → ℕ → ChunkRow → ChunkRow
with_next a next c = record c { next = cond (is_of_chunk c a) next c.next }

-- the segment of an id
abbrev pub segment_of : SegId → List SegmentRow → Option SegmentRow
segment_of a rows = find (λ r. same_id r.id a) rows

-- span and version of the chunk that is visible at an instant
abbrev pub visible_chunk : List SegmentRow → List ℕ → ℤ → Option (Extent × ℤ)
visible_chunk rows source t = option_map (λ r. (r.id.span, r.id.version)) (find (is_visible rows source t) rows)

-- the first segment by which a chunk is cut
abbrev pub first_cut : List SegmentRow → SegId → Option SegId
first_cut rows a = option_map (λ r. r.id) (find (is_cut_by a) rows)

-- a used row of the source that overlaps the span and doesn't lie within it
abbrev pub is_used_across : List ℕ → Extent → SegmentRow → Bool
is_used_across source span r = is_used_over source span r && not (covers span r.id.span)

abbrev pub first_across : List SegmentRow → List ℕ → Extent → Option SegId
first_across rows source span = option_map (λ r. r.id) (find (is_used_across source span) rows)
