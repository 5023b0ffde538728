-- Rows and ids that are within their limits: their instants have texts.
use Rattle.std.proofs.Common.{◌&&◌, ◌≡◌, ◌∙◌, Bool, List, filter, map, true}
use Rattle.std.specs.List.{list_all}
use Rattle.std.proofs.lemmas.Bool.{and_from, and_parts}
use Rattle.std.proofs.lemmas.List.Folds.{list_all-map}
use Rattle.iv_span.specs.Extent.{Extent}
use Rattle.iv_time.specs.Range.{is_instant}
use Rattle.seg_names.specs.Names.{is_name, is_task_id}
use Rattle.seg_names.specs.declared.seg_id.SegId.{SegId}
use Rattle.book_rows.specs.Fits.{id_fits, lock_fits, span_fits}
use Rattle.book_rows.specs.Form.{is_id, is_optional_id}
use Rattle.book_rows.specs.Ids.{in_order}
use Rattle.book_rows.specs.Shape.{is_pending_row, is_posse_row, is_segment_row}
use Rattle.book_rows.specs.ShowSteps.{lock_line}
use Rattle.book_rows.specs.Spans.{is_span}
use Rattle.book_rows.specs.declared.rows.PendingRow.{PendingRow}
use Rattle.book_rows.specs.declared.rows.PosseRow.{PosseRow}
use Rattle.book_rows.specs.declared.rows.SegmentRow.{SegmentRow}
use Rattle.laws_locks.proofs.Lists.{pass_filter, pass_weaker}
use Rattle.laws_texts.proofs.Lists.{in_order_passes}

-- ---- spans and ids

pub span_texts : (s : Extent) → is_span s ≡ true → span_fits s ≡ true
span_texts s h = (and_parts (span_fits s) _ h).0

pub spans_texts : (ss : List Extent) → list_all is_span ss ≡ true → list_all span_fits ss ≡ true
spans_texts ss h = pass_weaker is_span span_fits span_texts ss h

pub id_texts : (a : SegId) → is_id a ≡ true → id_fits a ≡ true
id_texts a h =
    let version = and_parts (is_name a.source && is_span a.span) (is_instant a.version) (and_parts (is_name a.source && is_span a.span && is_instant a.version) _ h).0 in
    and_from (span_fits a.span) (is_instant a.version) (span_texts a.span (and_parts (is_name a.source) (is_span a.span) version.0).1) version.1

pub ids_texts : (ids : List SegId) → list_all is_id ids ≡ true → list_all id_fits ids ≡ true
ids_texts ids h = pass_weaker is_id id_fits id_texts ids h

-- the span and the version of an id whose instants have texts
pub id_span_texts : (a : SegId) → id_fits a ≡ true → span_fits a.span ≡ true
id_span_texts a h = (and_parts (span_fits a.span) (is_instant a.version) h).0

pub id_version_texts : (a : SegId) → id_fits a ≡ true → is_instant a.version ≡ true
id_version_texts a h = (and_parts (span_fits a.span) (is_instant a.version) h).1

-- ---- rows

pub lock_texts : (p : PosseRow) → is_posse_row p ≡ true → lock_fits (lock_line p) ≡ true
lock_texts p h =
    let priority = and_parts _ _ (and_parts _ _ h).0 in
    let version = and_parts (is_task_id p.group && is_name p.source && is_span p.span) (is_instant p.version) priority.0 in
    let span = and_parts (is_task_id p.group && is_name p.source) (is_span p.span) version.0 in
    and_from (span_fits p.span) (is_instant p.version) (span_texts p.span span.1) version.1

pub segment_texts : (r : SegmentRow) → is_segment_row r ≡ true → (id_fits r.id ≡ true) × (id_fits r.root ≡ true)
segment_texts r h = let both = and_parts (is_id r.id) (is_id r.root) h in (id_texts r.id both.0, id_texts r.root both.1)

pub pending_texts : (p : PendingRow) → is_pending_row p ≡ true → id_fits p.id ≡ true
pending_texts p h =
    let sequence = and_parts (is_id p.id && is_id p.root) (is_name p.sequence) (and_parts (is_id p.id && is_id p.root && is_name p.sequence) (is_optional_id p.previous) h).0 in
    id_texts p.id (and_parts (is_id p.id) (is_id p.root) sequence.0).0

-- ---- tables

pub segments_texts : (rows : List SegmentRow) → list_all is_segment_row rows ≡ true → list_all (λ r. id_fits r.id) rows ≡ true
segments_texts rows h = pass_weaker is_segment_row (λ r. id_fits r.id) (λ r k. (segment_texts r k).0) rows h

-- the roots of the rows that pass, in id order
pub roots_texts : (q : SegmentRow → Bool) (rows : List SegmentRow) → list_all is_segment_row rows ≡ true → list_all id_fits (in_order (map (λ r. r.root) (filter q rows))) ≡ true
roots_texts q rows h =
    let some : List SegmentRow = filter q rows in
    in_order_passes id_fits (map (λ r. r.root) some)
    (list_all-map id_fits (λ r. r.root) some ∙ pass_weaker is_segment_row (λ r. id_fits r.root) (λ r k. (segment_texts r k).1) some (pass_filter is_segment_row q rows h))

pub pendings_texts : (ps : List PendingRow) → list_all is_pending_row ps ≡ true → list_all (λ p. id_fits p.id) ps ≡ true
pendings_texts ps h = pass_weaker is_pending_row (λ p. id_fits p.id) pending_texts ps h
