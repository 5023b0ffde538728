-- What is shown: ids and spans of rows, and spans between their ends.
use Rattle.std.proofs.Common.{◌&&◌, ◌≡◌, ◌∷◌, ◌∙◌, Bool, List, [], bytes_eq, cond, false, filter, map, not, refl, sym, true, ℕ, ℤ}
use Rattle.std.specs.List.{list_all}
use Rattle.std.proofs.lemmas.Bool.{and_from, and_parts, false≢true}
use Rattle.std.proofs.lemmas.List.Folds.{list_all-append, list_all-map}
use Rattle.iv_span.specs.Extent.{Extent, has}
use Rattle.iv_time.specs.Range.{is_instant}
use Rattle.seg_names.specs.declared.seg_id.SegId.{SegId}
use Rattle.book_rows.specs.Fits.{contents_fits, id_fits, lock_fits, reply_fits, span_fits, timeline_fits}
use Rattle.book_rows.specs.Lists.{gathered}
use Rattle.book_rows.specs.Shape.{is_posse_row, is_segment_row}
use Rattle.book_rows.specs.ShowSteps.{lock_line, shown_of}
use Rattle.book_rows.specs.Shown.{ChunkPart, agree, chunk_part, contents_of, ids_shown, join_part, join_parts, join_root, join_roots, roots_agree, roots_at, roots_part, row_spans, source_pieces, timeline_of, timeline_part, used_rows}
use Rattle.book_rows.specs.Spans.{cuts, pieces, put_cut}
use Rattle.book_rows.specs.Visible.{is_visible, visible}
use Rattle.book_rows.specs.declared.commands.What.{What}
use Rattle.book_rows.specs.declared.commands.What.TheVariants as Whats
use Rattle.book_rows.specs.declared.replies.ContentsPart.{ContentsPart}
use Rattle.book_rows.specs.declared.rows.Book.{Book}
use Rattle.book_rows.specs.declared.rows.PosseRow.{PosseRow}
use Rattle.book_rows.specs.declared.rows.SegmentRow.{SegmentRow}
use Rattle.laws_locks.proofs.Lists.{pass_filter, pass_weaker}
use Rattle.laws_texts.specs.Texts.{HasLimitedRows, shows_ids}
use Rattle.laws_texts.proofs.Limited.{id_span_texts, id_version_texts, lock_texts, roots_texts, segment_texts}
use Rattle.laws_texts.proofs.Lists.{cut_passes, in_order_passes}

-- ---- pieces between the ends of rows

row_spans_fit : (rows : List SegmentRow) → list_all is_segment_row rows ≡ true → list_all span_fits (row_spans rows) ≡ true
row_spans_fit [] h = refl
row_spans_fit (r ∷ rs) h =
    let both = and_parts (is_segment_row r) (list_all is_segment_row rs) h in
    let own = segment_texts r both.0 in
    and_from (span_fits r.id.span) (list_all span_fits (r.root.span ∷ row_spans rs)) (id_span_texts r.id own.0) (and_from (span_fits r.root.span) (list_all span_fits (row_spans rs)) (id_span_texts r.root own.1) (row_spans_fit rs both.1))

cuts_fit : (ss : List Extent) → list_all span_fits ss ≡ true → list_all is_instant (cuts ss) ≡ true
cuts_fit [] h = refl
cuts_fit (s ∷ ss) h =
    let both = and_parts (span_fits s) (list_all span_fits ss) h in
    let ends = and_parts (is_instant s.start) (is_instant s.end) both.0 in
    cut_passes is_instant s.start (put_cut s.end (cuts ss)) ends.0 (cut_passes is_instant s.end (cuts ss) ends.1 (cuts_fit ss both.1))

pieces_fit : (ts : List ℤ) → list_all is_instant ts ≡ true → list_all span_fits (pieces ts) ≡ true
pieces_fit [] h = refl
pieces_fit (t ∷ []) h = refl
pieces_fit (t ∷ u ∷ us) h =
    let both = and_parts (is_instant t) (list_all is_instant (u ∷ us)) h in
    and_from (is_instant t && is_instant u) (list_all span_fits (pieces (u ∷ us))) (and_from (is_instant t) (is_instant u) both.0 (and_parts (is_instant u) (list_all is_instant us) both.1).0) (pieces_fit (u ∷ us) both.1)

source_pieces_fit : (rows : List SegmentRow) (source : List ℕ) → list_all is_segment_row rows ≡ true → list_all span_fits (source_pieces rows source) ≡ true
source_pieces_fit rows source h =
    let used : List SegmentRow = used_rows rows source in
    pieces_fit (cuts (row_spans used)) (cuts_fit (row_spans used) (row_spans_fit used (pass_filter is_segment_row (λ r. r.used && bytes_eq r.id.source source) rows h)))

-- the rows that are visible are rows
visible_rows : (rows : List SegmentRow) (source : List ℕ) (t : ℤ) → list_all is_segment_row rows ≡ true → list_all is_segment_row (visible rows source t) ≡ true
visible_rows rows source t h = pass_filter is_segment_row (is_visible rows source t) rows h

-- a span from one to another
joined_span : (a b : Extent) → span_fits a ≡ true → span_fits b ≡ true → span_fits (record { start = a.start; end = b.end }) ≡ true
joined_span a b h k = and_from (is_instant a.start) (is_instant b.end) (and_parts (is_instant a.start) (is_instant a.end) h).0 (and_parts (is_instant b.start) (is_instant b.end) k).1

-- ---- the timeline

abbrev part_fits : ChunkPart → Bool
part_fits p = timeline_fits (timeline_part p)

shown_ids_fit : (rows : List SegmentRow) → list_all is_segment_row rows ≡ true → list_all id_fits (ids_shown rows) ≡ true
shown_ids_fit rows h =
    let whole : List SegmentRow = filter (λ r. not r.tombstone) rows in
    in_order_passes id_fits (map (λ r. r.id) whole)
    (list_all-map id_fits (λ r. r.id) whole ∙ pass_weaker is_segment_row (λ r. id_fits r.id) (λ r k. (segment_texts r k).0) whole (pass_filter is_segment_row (λ r. not r.tombstone) rows h))

piece_fits : (piece : Extent) (rows : List SegmentRow) → span_fits piece ≡ true → list_all is_segment_row rows ≡ true → list_all part_fits (chunk_part piece rows) ≡ true
piece_fits piece [] e h = refl
piece_fits piece (r ∷ rs) e h =
    let own = segment_texts r (and_parts (is_segment_row r) (list_all is_segment_row rs) h).0 in
    and_from _ true (and_from (list_all id_fits (ids_shown (r ∷ rs)) && span_fits piece) (is_instant r.id.version) (and_from (list_all id_fits (ids_shown (r ∷ rs))) (span_fits piece) (shown_ids_fit (r ∷ rs) h) e) (id_version_texts r.id own.0)) refl

parts_fit : (rows : List SegmentRow) (source : List ℕ) (es : List Extent) → list_all is_segment_row rows ≡ true → list_all span_fits es ≡ true → list_all part_fits (gathered (λ e. chunk_part e (visible rows source e.start)) es) ≡ true
parts_fit rows source [] h k = refl
parts_fit rows source (e ∷ es) h k =
    let both = and_parts (span_fits e) (list_all span_fits es) k in
    list_all-append part_fits (chunk_part e (visible rows source e.start)) (gathered (λ e. chunk_part e (visible rows source e.start)) es)
    ∙ and_from _ _ (piece_fits e (visible rows source e.start) both.0 (visible_rows rows source e.start h)) (parts_fit rows source es h both.1)

-- of two parts that are joined
merged_fits : (p q : ChunkPart) → part_fits p ≡ true → part_fits q ≡ true → part_fits (record p { span = record { start = p.span.start; end = q.span.end } }) ≡ true
merged_fits p q h k =
    let one = and_parts (list_all id_fits p.ids && span_fits p.span) (is_instant p.version) h in
    let own = and_parts (list_all id_fits p.ids) (span_fits p.span) one.0 in
    let span = (and_parts (list_all id_fits q.ids) (span_fits q.span) (and_parts (list_all id_fits q.ids && span_fits q.span) (is_instant q.version) k).0).1 in
    and_from (list_all id_fits p.ids && span_fits (record { start = p.span.start; end = q.span.end })) (is_instant p.version) (and_from (list_all id_fits p.ids) (span_fits (record { start = p.span.start; end = q.span.end })) own.0 (joined_span p.span q.span own.1 span)) one.1

join_part_fits : (p : ChunkPart) (ps : List ChunkPart) → part_fits p ≡ true → list_all part_fits ps ≡ true → list_all part_fits (join_part p ps) ≡ true
join_part_fits p [] h k = and_from (part_fits p) true h refl
join_part_fits p (q ∷ qs) h k = go (agree p q) where
  merged : ChunkPart
  merged = record p { span = record { start = p.span.start; end = q.span.end } }

  go : (b : Bool) → list_all part_fits (cond b (merged ∷ qs) (p ∷ q ∷ qs)) ≡ true
  go true = let both = and_parts (part_fits q) (list_all part_fits qs) k in and_from (part_fits merged) (list_all part_fits qs) (merged_fits p q h both.0) both.1
  go false = and_from (part_fits p) (list_all part_fits (q ∷ qs)) h k

join_parts_fit : (ps : List ChunkPart) → list_all part_fits ps ≡ true → list_all part_fits (join_parts ps) ≡ true
join_parts_fit [] h = refl
join_parts_fit (p ∷ ps) h = let both = and_parts (part_fits p) (list_all part_fits ps) h in join_part_fits p (join_parts ps) both.0 (join_parts_fit ps both.1)

timeline_of_fits : (rows : List SegmentRow) (source : List ℕ) → list_all is_segment_row rows ≡ true → list_all timeline_fits (timeline_of rows source) ≡ true
timeline_of_fits rows source h =
    let parts : List ChunkPart = gathered (λ e. chunk_part e (visible rows source e.start)) (source_pieces rows source) in
    list_all-map timeline_fits timeline_part (join_parts parts) ∙ join_parts_fit parts (parts_fit rows source (source_pieces rows source) h (source_pieces_fit rows source h))

-- ---- the contents

roots_at_fit : (rows : List SegmentRow) (t : ℤ) → list_all is_segment_row rows ≡ true → list_all id_fits (roots_at rows t) ≡ true
roots_at_fit rows t h = roots_texts (λ r. not r.tombstone && has r.root.span t) rows h

roots_fit : (piece : Extent) (roots : List SegId) → span_fits piece ≡ true → list_all id_fits roots ≡ true → list_all contents_fits (roots_part piece roots) ≡ true
roots_fit piece [] e h = refl
roots_fit piece (a ∷ as') e h = and_from _ true (and_from (list_all id_fits (a ∷ as')) (span_fits piece) h e) refl

roots_parts_fit : (rows : List SegmentRow) (source : List ℕ) (es : List Extent) → list_all is_segment_row rows ≡ true → list_all span_fits es ≡ true
    → list_all contents_fits (gathered (λ e. roots_part e (roots_at (visible rows source e.start) e.start)) es) ≡ true
roots_parts_fit rows source [] h k = refl
roots_parts_fit rows source (e ∷ es) h k =
    let both = and_parts (span_fits e) (list_all span_fits es) k in
    list_all-append contents_fits (roots_part e (roots_at (visible rows source e.start) e.start)) (gathered (λ e. roots_part e (roots_at (visible rows source e.start) e.start)) es)
    ∙ and_from _ _ (roots_fit e (roots_at (visible rows source e.start) e.start) both.0 (roots_at_fit (visible rows source e.start) e.start (visible_rows rows source e.start h))) (roots_parts_fit rows source es h both.1)

merged_roots_fit : (p q : ContentsPart) → contents_fits p ≡ true → contents_fits q ≡ true → contents_fits (record p { span = record { start = p.span.start; end = q.span.end } }) ≡ true
merged_roots_fit p q h k =
    let own = and_parts (list_all id_fits p.roots) (span_fits p.span) h in
    and_from (list_all id_fits p.roots) (span_fits (record { start = p.span.start; end = q.span.end })) own.0 (joined_span p.span q.span own.1 (and_parts (list_all id_fits q.roots) (span_fits q.span) k).1)

join_root_fits : (p : ContentsPart) (ps : List ContentsPart) → contents_fits p ≡ true → list_all contents_fits ps ≡ true → list_all contents_fits (join_root p ps) ≡ true
join_root_fits p [] h k = and_from (contents_fits p) true h refl
join_root_fits p (q ∷ qs) h k = go (roots_agree p q) where
  merged : ContentsPart
  merged = record p { span = record { start = p.span.start; end = q.span.end } }

  go : (b : Bool) → list_all contents_fits (cond b (merged ∷ qs) (p ∷ q ∷ qs)) ≡ true
  go true = let both = and_parts (contents_fits q) (list_all contents_fits qs) k in and_from (contents_fits merged) (list_all contents_fits qs) (merged_roots_fit p q h both.0) both.1
  go false = and_from (contents_fits p) (list_all contents_fits (q ∷ qs)) h k

join_roots_fit : (ps : List ContentsPart) → list_all contents_fits ps ≡ true → list_all contents_fits (join_roots ps) ≡ true
join_roots_fit [] h = refl
join_roots_fit (p ∷ ps) h = let both = and_parts (contents_fits p) (list_all contents_fits ps) h in join_root_fits p (join_roots ps) both.0 (join_roots_fit ps both.1)

contents_of_fits : (rows : List SegmentRow) (source : List ℕ) → list_all is_segment_row rows ≡ true → list_all contents_fits (contents_of rows source) ≡ true
contents_of_fits rows source h =
    join_roots_fit (gathered (λ e. roots_part e (roots_at (visible rows source e.start) e.start)) (source_pieces rows source)) (roots_parts_fit rows source (source_pieces rows source) h (source_pieces_fit rows source h))

-- ---- show

lines_fit : (ps : List PosseRow) → list_all is_posse_row ps ≡ true → list_all lock_fits (map lock_line ps) ≡ true
lines_fit ps h = list_all-map lock_fits lock_line ps ∙ pass_weaker is_posse_row (λ p. lock_fits (lock_line p)) lock_texts ps h

pub locks_shown_fit : (b : Book) (what : What) → shows_ids what ≡ false → list_all is_posse_row b.posses ≡ true → reply_fits (shown_of b what) ≡ true
locks_shown_fit b Whats.Tasks is h = refl
locks_shown_fit b Whats.Locks is h = lines_fit b.posses h
locks_shown_fit b (Whats.Timeline source) is h = absurd (false≢true (sym is))
locks_shown_fit b (Whats.Contents source) is h = absurd (false≢true (sym is))
locks_shown_fit b (Whats.Offsets source) is h = refl
locks_shown_fit b (Whats.Sequences source) is h = refl

pub shown_fits : (b : Book) (what : What) → HasLimitedRows b → reply_fits (shown_of b what) ≡ true
shown_fits b Whats.Tasks rows = refl
shown_fits b Whats.Locks rows = lines_fit b.posses rows.locks.0.locks.rows
shown_fits b (Whats.Timeline source) rows = timeline_of_fits b.segments source rows.places.segments
shown_fits b (Whats.Contents source) rows = contents_of_fits b.segments source rows.places.segments
shown_fits b (Whats.Offsets source) rows = refl
shown_fits b (Whats.Sequences source) rows = refl
