-- The parts that a sound book shows have texts: their ids and roots are those of rows.
use Rattle.std.proofs.Common.{◌&&◌, ◌≡◌, List, arith, filter, int_lt, map, not, sym, subst, true, ℕ, ℤ}
use Rattle.std.specs.List.{list_all}
use Rattle.std.specs.Prelude.{nat_le, nat_lt}
use Rattle.std.proofs.lemmas.Bool.{and_from, and_parts}
use Rattle.iv_time.specs.Range.{is_instant}
use Rattle.seg_names.specs.IdTexts.{is_seg_id}
use Rattle.seg_names.specs.Ids.{has_instants}
use Rattle.seg_names.specs.Names.{is_name}
use Rattle.seg_names.specs.declared.seg_id.SegId.{SegId}
use Rattle.book_rows.specs.Fits.{contents_fits, id_fits, span_fits, timeline_fits}
use Rattle.book_rows.specs.Form.{is_id}
use Rattle.book_rows.specs.Lists.{In}
use Rattle.book_rows.specs.Shape.{is_segment_row}
use Rattle.book_rows.specs.Shown.{contents_of, ids_shown, roots_at, timeline_of}
use Rattle.book_rows.specs.Spans.{is_span}
use Rattle.book_rows.specs.Visible.{is_visible, visible}
use Rattle.book_rows.specs.declared.commands.What.TheVariants as Whats
use Rattle.book_rows.specs.declared.replies.ContentsPart.{ContentsPart}
use Rattle.book_rows.specs.declared.replies.TimelinePart.{TimelinePart}
use Rattle.book_rows.specs.declared.rows.SegmentRow.{SegmentRow}
use Rattle.laws_chunks.proofs.Members.{In-filter, In-map, all_pass, list_all_In}
use Rattle.laws_shown.proofs.InOrder.{in_order_back}
use Rattle.laws_shown.proofs.Printing.{contents_are_of_each_instant, root_of_visible, timeline_is_of_each_instant}
use Rattle.laws_texts.proofs.EachCommand.{sound_has_limited_rows}
use Rattle.laws_texts.proofs.Showing.{shown_fits}
use Rattle.laws_runs.specs.ToldParts.{SoundPartsHaveTexts, has_texts, have_root_texts}
use Rattle.laws_runs.proofs.SoundRuns.{contents_proper, has_start, timeline_proper}

part_below : (n : ℕ) → nat_le n 4294967295 ≡ true → nat_lt n 4294967296 ≡ true
part_below n h = grind arith

-- an id of a row has a text
id_has_text : (a : SegId) → is_id a ≡ true → is_seg_id a ≡ true
id_has_text a h =
    let part = and_parts (is_name a.source && is_span a.span && is_instant a.version) (nat_le a.part 4294967295) h in
    let version = and_parts (is_name a.source && is_span a.span) (is_instant a.version) part.0 in
    let span = and_parts (is_name a.source) (is_span a.span) version.0 in
    let ends = and_parts (is_instant a.span.start && is_instant a.span.end) (int_lt a.span.start a.span.end) span.1 in
    and_from (is_name a.source && int_lt a.span.start a.span.end && has_instants a) (nat_lt a.part 4294967296)
    (and_from (is_name a.source && int_lt a.span.start a.span.end) (has_instants a)
    (and_from (is_name a.source) (int_lt a.span.start a.span.end) span.0 ends.1)
    (and_from (is_instant a.span.start && is_instant a.span.end) (is_instant a.version) ends.0 version.1))
    (part_below a.part part.1)

module _ (rows : List SegmentRow) (limited : list_all is_segment_row rows ≡ true) (source : List ℕ) where
  row_ids : (r : SegmentRow) (t : ℤ) → In r (visible rows source t) → (is_seg_id r.id ≡ true) × (is_seg_id r.root ≡ true)
  row_ids r t i =
      let both = and_parts (is_id r.id) (is_id r.root) (list_all_In is_segment_row r rows (In-filter (is_visible rows source t) r rows i).0 limited) in
      (id_has_text r.id both.0, id_has_text r.root both.1)

  -- the ids of a part of the timeline, and the roots of a part of the contents
  timeline_ids : (p : TimelinePart) → In p (timeline_of rows source) → list_all is_seg_id p.ids ≡ true
  timeline_ids p i =
      let t = p.span.start in
      let at = (timeline_is_of_each_instant rows source).parts p t i (has_start p.span (timeline_proper rows source p i)) in
      subst (λ (ids : List SegId). list_all is_seg_id ids ≡ true) (sym at.ids_are) (all_pass is_seg_id (ids_shown (visible rows source t)) (λ a k. of_row a t k)) where
        of_row : (a : SegId) (t : ℤ) → In a (ids_shown (visible rows source t)) → is_seg_id a ≡ true
        of_row a t k =
            let named = filter (λ (r : SegmentRow). not r.tombstone) (visible rows source t) in
            let w = In-map (λ (r : SegmentRow). r.id) a named (in_order_back a (map (λ (r : SegmentRow). r.id) named) k) in
            subst (λ (x : SegId). is_seg_id x ≡ true) (sym w.2) (row_ids w.0 t (In-filter (λ (r : SegmentRow). not r.tombstone) w.0 (visible rows source t) w.1).0).0

  contents_roots : (p : ContentsPart) → In p (contents_of rows source) → list_all is_seg_id p.roots ≡ true
  contents_roots p i =
      let t = p.span.start in
      let at = (contents_are_of_each_instant rows source).parts p t i (has_start p.span (contents_proper rows source p i)) in
      subst (λ (roots : List SegId). list_all is_seg_id roots ≡ true) (sym at) (all_pass is_seg_id (roots_at (visible rows source t) t) (λ a k. of_row a t k)) where
        of_row : (a : SegId) (t : ℤ) → In a (roots_at (visible rows source t) t) → is_seg_id a ≡ true
        of_row a t k = let w = root_of_visible rows source t a k in subst (λ (x : SegId). is_seg_id x ≡ true) (sym w.2) (row_ids w.0 t w.1).1

pub sound_parts_have_texts : SoundPartsHaveTexts
sound_parts_have_texts b s source = (all_pass has_texts (timeline_of b.segments source) in_timeline, all_pass have_root_texts (contents_of b.segments source) in_contents) where
  in_timeline : (p : TimelinePart) → In p (timeline_of b.segments source) → has_texts p ≡ true
  in_timeline p i =
      let fits = list_all_In timeline_fits p (timeline_of b.segments source) i (shown_fits b (Whats.Timeline source) (sound_has_limited_rows b s)) in
      let version = and_parts (list_all id_fits p.ids && span_fits p.span) (is_instant p.version) fits in
      and_from (list_all is_seg_id p.ids && span_fits p.span) (is_instant p.version)
      (and_from (list_all is_seg_id p.ids) (span_fits p.span) (timeline_ids b.segments s.shape.limits.segments source p i) (and_parts (list_all id_fits p.ids) (span_fits p.span) version.0).1)
      version.1

  in_contents : (p : ContentsPart) → In p (contents_of b.segments source) → have_root_texts p ≡ true
  in_contents p i =
      let fits = list_all_In contents_fits p (contents_of b.segments source) i (shown_fits b (Whats.Contents source) (sound_has_limited_rows b s)) in
      and_from (list_all is_seg_id p.roots) (span_fits p.span) (contents_roots b.segments s.shape.limits.segments source p i) (and_parts (list_all id_fits p.roots) (span_fits p.span) fits).1
