-- What is shown of a source: the timeline and the contents, as maximal spans.
use Rattle.std.specs.Prelude.{◌&&◌, ◌∷◌, Bool, List, [], bytes_eq, cond, filter, map, not, ℕ, ℤ}
use Rattle.std.specs.Ordering.{int_eq}
use Rattle.iv_span.specs.Extent.{Extent, has}
use Rattle.seg_names.specs.Ids.{same_extent}
use Rattle.seg_names.specs.declared.seg_id.SegId.{SegId}
use Rattle.book_rows.specs.Ids.{in_order, same_ids}
use Rattle.book_rows.specs.Lists.{gathered}
use Rattle.book_rows.specs.Spans.{cuts, pieces}
use Rattle.book_rows.specs.Visible.{visible}
use Rattle.book_rows.specs.declared.replies.ContentsPart.{ContentsPart}
use Rattle.book_rows.specs.declared.replies.TimelinePart.{TimelinePart}
use Rattle.book_rows.specs.declared.rows.SegmentRow.{SegmentRow}

-- the used rows of a source
abbrev pub used_rows : List SegmentRow → List ℕ → List SegmentRow
used_rows rows source = filter (λ r. r.used && bytes_eq r.id.source source) rows

-- the spans of the used rows and of their roots: between neighbouring ends of these nothing changes
abbrev pub row_spans : List SegmentRow → List Extent
row_spans rows = gathered (λ r. r.id.span ∷ r.root.span ∷ []) rows

abbrev pub source_pieces : List SegmentRow → List ℕ → List Extent
source_pieces rows source = pieces (cuts (row_spans (used_rows rows source)))

-- ---- the timeline

-- what is visible in a piece: the chunk, and its used ids without tombstones
pub record ChunkPart : Type 0 where
  pub span : Extent
  pub chunk : Extent
  pub version : ℤ
  pub ids : List SegId

-- the ids of rows that aren't tombstones, by part
abbrev pub ids_shown : List SegmentRow → List SegId
ids_shown rows = in_order (map (λ r. r.id) (filter (λ r. not r.tombstone) rows))

abbrev pub chunk_part : Extent → List SegmentRow → List ChunkPart
chunk_part piece [] = []
chunk_part piece (r ∷ rs) = record { span = piece; chunk = r.id.span; version = r.id.version; ids = ids_shown (r ∷ rs) } ∷ []

abbrev pub agree : ChunkPart → ChunkPart → Bool
agree p q = int_eq p.span.end q.span.start && same_extent p.chunk q.chunk && int_eq p.version q.version && same_ids p.ids q.ids

-- the piece joined to those after it, where the first of them touches it and agrees with it
abbrev pub join_part : ChunkPart → List ChunkPart → List ChunkPart
join_part p [] = p ∷ []
join_part p (q ∷ qs) = cond (agree p q) (record p { span = record { start = p.span.start; end = q.span.end } } ∷ qs) (p ∷ q ∷ qs)

abbrev pub join_parts : List ChunkPart → List ChunkPart
join_parts [] = []
join_parts (p ∷ ps) = join_part p (join_parts ps)

abbrev pub timeline_part : ChunkPart → TimelinePart
timeline_part p = record { span = p.span; version = p.version; ids = p.ids }

-- the maximal spans in which one chunk is visible, ascending
abbrev pub timeline_of : List SegmentRow → List ℕ → List TimelinePart
timeline_of rows source = map timeline_part (join_parts (gathered (λ e. chunk_part e (visible rows source e.start)) (source_pieces rows source)))

-- ---- the contents

-- the roots that the rows stand for at the instant, in id order, each once
abbrev pub roots_at : List SegmentRow → ℤ → List SegId
roots_at rows t = in_order (map (λ r. r.root) (filter (λ r. not r.tombstone && has r.root.span t) rows))

abbrev pub roots_part : Extent → List SegId → List ContentsPart
roots_part piece [] = []
roots_part piece (a ∷ as') = record { span = piece; roots = a ∷ as' } ∷ []

abbrev pub roots_agree : ContentsPart → ContentsPart → Bool
roots_agree p q = int_eq p.span.end q.span.start && same_ids p.roots q.roots

abbrev pub join_root : ContentsPart → List ContentsPart → List ContentsPart
join_root p [] = p ∷ []
join_root p (q ∷ qs) = cond (roots_agree p q) (record p { span = record { start = p.span.start; end = q.span.end } } ∷ qs) (p ∷ q ∷ qs)

abbrev pub join_roots : List ContentsPart → List ContentsPart
join_roots [] = []
join_roots (p ∷ ps) = join_root p (join_roots ps)

-- the maximal spans with the same roots, ascending
abbrev pub contents_of : List SegmentRow → List ℕ → List ContentsPart
contents_of rows source = join_roots (gathered (λ e. roots_part e (roots_at (visible rows source e.start) e.start)) (source_pieces rows source))
