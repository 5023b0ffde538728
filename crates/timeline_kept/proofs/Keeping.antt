-- The rows that overlap the spans decide what is visible in them, so changed parts are the timeline of the rows as they are afterwards.
use Rattle.std.proofs.Common.{Bool, List, [], ap, cond, false, filter, inl, inr, int_le, not, refl, sym, true, ℕ, ℤ, ◌&&◌, ◌||◌, ◌∙◌, ◌∷◌, ◌≡◌, arith}
use Rattle.std.specs.Prelude.{bytes_eq}
use Rattle.std.proofs.lemmas.Bool.{and_from, and_parts, cases_Bool, false≢true, or_left, or_right}
use Rattle.iv_span.specs.Condensed.{has_any}
use Rattle.iv_span.specs.Extent.{Extent, has, overlap}
use Rattle.book_rows.specs.Shown.{agree}
use Rattle.book_rows.specs.Spans.{overlaps_one}
use Rattle.book_rows.specs.Visible.{is_used_at, is_visible, tops}
use Rattle.book_rows.specs.declared.rows.SegmentRow.{SegmentRow}
use Rattle.laws_chunks.proofs.Spans.{meet}
use Rattle.laws_shown.specs.Printed.{chunk_parts}
use Rattle.laws_parts.specs.Laws.{AreChunkParts, chunk_at, chunk_body, chunk_of}
use Rattle.laws_parts.proofs.Determined.{chunk_parts_are, chunks_touch, chunks_whole, timeline_is_determined}
use Rattle.laws_parts.proofs.Unique.{one_list}
use Rattle.timeline_kept.specs.Laws.{ChangedIsTimeline, rows_over}
use Rattle.timeline_kept.specs.Shown.{given_over, shown_at, span_of}
use Rattle.timeline_kept.proofs.Showing.{moved, shown_is}

module _ (source : List ℕ) (keep : SegmentRow → Bool) (t : ℤ) (over : (r : SegmentRow) → is_used_at source t r ≡ true → keep r ≡ true) where
  not_over : (r : SegmentRow) → keep r ≡ false → is_used_at source t r ≡ false
  not_over r off = elim (cases_Bool (is_used_at source t r)) [ inl on ↦ absurd (false≢true (sym off ∙ over r on)) | inr h ↦ h ]

  tops_over : (rows : List SegmentRow) (r : SegmentRow) → tops (filter keep rows) source t r ≡ tops rows source t r
  tops_over [] r = refl
  tops_over (q ∷ rows) r = go (tops_over rows r) (keep q) refl where
    go : tops (filter keep rows) source t r ≡ tops rows source t r → (b : Bool) → keep q ≡ b → tops (cond b (q ∷ filter keep rows) (filter keep rows)) source t r ≡ tops (q ∷ rows) source t r
    go rest true on = ap (λ (b : Bool). (not (is_used_at source t q) || int_le q.id.version r.id.version) && b) rest
    go rest false off = rest ∙ ap (λ (b : Bool). (not b || int_le q.id.version r.id.version) && tops rows source t r) (sym (not_over q off))

  seen : (all : List SegmentRow) (rows : List SegmentRow) → filter (is_visible (filter keep all) source t) (filter keep rows) ≡ filter (is_visible all source t) rows
  seen all [] = refl
  seen all (q ∷ rows) = go (seen all rows) (keep q) refl where
    same : is_visible (filter keep all) source t q ≡ is_visible all source t q
    same = ap (λ (b : Bool). is_used_at source t q && b) (tops_over all q)

    go : filter (is_visible (filter keep all) source t) (filter keep rows) ≡ filter (is_visible all source t) rows → (b : Bool) → keep q ≡ b → filter (is_visible (filter keep all) source t) (cond b (q ∷ filter keep rows) (filter keep rows)) ≡ filter (is_visible all source t) (q ∷ rows)
    go rest true on = rw (same, rest) refl
    go rest false off = rest ∙ ap (λ (b : Bool). cond (b && tops all source t q) (q ∷ filter (is_visible all source t) rows) (filter (is_visible all source t) rows)) (sym (not_over q off))

  same_chunk : (rows : List SegmentRow) → chunk_at (filter keep rows) source t ≡ chunk_at rows source t
  same_chunk rows = ap chunk_of (seen rows rows)

overlaps_of : (ss : List Extent) (a : Extent) (t : ℤ) → has_any ss t ≡ true → has a t ≡ true → overlaps_one ss a ≡ true
overlaps_of [] a t h k = absurd (false≢true h)
overlaps_of (s ∷ ss) a t h k = elim (cases_Bool (has s t)) [
  | inl on ↦ or_left (overlap s a) (overlaps_one ss a) (meet s a t on k)
  | inr off ↦ or_right (overlap s a) (overlaps_one ss a) (overlaps_of ss a t (rest (has s t) (has_any ss t) off h) k)
] where
  rest : (a b : Bool) → a ≡ false → (a || b) ≡ true → b ≡ true
  rest a b h k = grind arith

over_spans : (source : List ℕ) (spans : List Extent) (t : ℤ) → has_any spans t ≡ true → (rows : List SegmentRow) → chunk_at (rows_over source spans rows) source t ≡ chunk_at rows source t
over_spans source spans t inside rows = same_chunk source (λ r. r.used && bytes_eq r.id.source source && overlaps_one spans r.id.span) t over rows where
  over : (r : SegmentRow) → is_used_at source t r ≡ true → (r.used && bytes_eq r.id.source source && overlaps_one spans r.id.span) ≡ true
  over r h = let both = and_parts (r.used && bytes_eq r.id.source source) (has r.id.span t) h in and_from (r.used && bytes_eq r.id.source source) (overlaps_one spans r.id.span) both.0 (overlaps_of spans r.id.span t inside both.1)

pub changed_is_timeline : ChangedIsTimeline
changed_is_timeline before after source spans new changes w = (
  one_list span_of chunk_body agree (chunk_at after source) chunks_whole chunks_touch new (chunk_parts after source) shown (chunk_parts_are after source),
  timeline_is_determined after source new shown,
) where
  same : (t : ℤ) → given_over spans (chunk_at (rows_over source spans after) source) (shown_at (chunk_parts before source)) t ≡ chunk_at after source t
  same t = go (has_any spans t) refl where
    go : (b : Bool) → has_any spans t ≡ b → cond b (chunk_at (rows_over source spans after) source t) (shown_at (chunk_parts before source) t) ≡ chunk_at after source t
    go true on = over_spans source spans t on after
    go false off = shown_is (chunk_at before source) (chunk_parts before source) (chunk_parts_are before source) t ∙ sym (changes t off)

  shown : AreChunkParts after source new
  shown = moved (given_over spans (chunk_at (rows_over source spans after) source) (shown_at (chunk_parts before source))) (chunk_at after source) same new w
