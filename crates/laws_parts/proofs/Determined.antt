-- The parts of which the timeline is printed show the visible chunks, and no other list of parts does; the same of the contents.
use Rattle.std.proofs.Common.{Bool, List, [], ap, inl, map, not, refl, subst, sym, true, ℕ, ℤ, ◌&&◌, ◌∙◌, ◌∷◌, ◌≡◌}
use Rattle.std.specs.Prelude.{None, Some, bytes_eq}
use Rattle.std.specs.Ordering.{int_eq}
use Rattle.std.proofs.lemmas.Bool.{and_from, and_parts}
use Rattle.std.proofs.lemmas.Bool.Decides.{Decides-int_eq}
use Rattle.iv_span.specs.Extent.{Extent, has}
use Rattle.seg_names.specs.Ids.{same_extent, same_id}
use Rattle.seg_names.specs.declared.seg_id.SegId.{SegId}
use Rattle.book_rows.specs.Ids.{in_order, same_ids}
use Rattle.book_rows.specs.Lists.{In}
use Rattle.book_rows.specs.Shown.{ChunkPart, agree, chunk_part, contents_of, ids_shown, join_part, join_parts, join_root, join_roots, roots_agree, roots_at, roots_part, row_spans, source_pieces, timeline_part, used_rows}
use Rattle.book_rows.specs.Spans.{cuts}
use Rattle.book_rows.specs.Visible.{is_used_at, is_visible, tops, visible}
use Rattle.book_rows.specs.declared.replies.ContentsPart.{ContentsPart}
use Rattle.book_rows.specs.declared.rows.SegmentRow.{SegmentRow}
use Rattle.laws_chunks.proofs.Members.{In-filter, filter_In}
use Rattle.laws_chunks.proofs.Spans.{same_extent_from, same_extent_means, same_id_itself}
use Rattle.laws_shown.specs.Printed.{chunk_parts}
use Rattle.laws_shown.proofs.Alike.{In-gathered, all_visible_alike, filter_alike, root_span_alike, source_alike}
use Rattle.laws_shown.proofs.Joining.{IsJoin}
use Rattle.laws_shown.proofs.Pieces.{IsInPiece, alike_in_piece, cuts_ascend, span_in_piece}
use Rattle.laws_shown.proofs.Printing.{root_of_visible, same_ids_means}
use Rattle.laws_parts.specs.Laws.{AreChunkParts, AreRootsParts, ChunkShown, ContentsAreDetermined, ContentsAreSo, TimelineIsDetermined, TimelineIsSo, chunk_at, chunk_body, chunk_of, roots_given, some_roots}
use Rattle.laws_parts.proofs.Building.{DoJoin}
use Rattle.laws_parts.proofs.Joined.{Gives, gives_none, gives_one, joined_are_parts}
use Rattle.laws_parts.proofs.Unique.{none_not_some, one_list}

-- ---- parts of the timeline that agree

pub chunks_whole : (p q : ChunkPart) → p.span ≡ q.span → chunk_body p ≡ chunk_body q → p ≡ q
chunks_whole p q e f = ap (λ (x : Extent). record p { span = x }) e ∙ ap (λ (x : ChunkShown). record q { chunk = x.chunk; version = x.version; ids = x.ids }) f

pub same_ids_itself : (ids : List SegId) → same_ids ids ids ≡ true
same_ids_itself [] = refl
same_ids_itself (a ∷ ids) = and_from (same_id a a) (same_ids ids ids) (same_id_itself a) (same_ids_itself ids)

same_ids_from : (as' bs : List SegId) → as' ≡ bs → same_ids as' bs ≡ true
same_ids_from as' bs e = subst (λ (cs : List SegId). same_ids as' cs ≡ true) e (same_ids_itself as')

pub chunks_touch : (p q : ChunkPart) → p.span.end ≡ q.span.start → chunk_body p ≡ chunk_body q → agree p q ≡ true
chunks_touch p q e f = and_from (int_eq p.span.end q.span.start && same_extent p.chunk q.chunk && int_eq p.version q.version) (same_ids p.ids q.ids)
    (and_from (int_eq p.span.end q.span.start && same_extent p.chunk q.chunk) (int_eq p.version q.version)
    (and_from (int_eq p.span.end q.span.start) (same_extent p.chunk q.chunk) ((Decides-int_eq p.span.end q.span.start).1 e) (same_extent_from p.chunk q.chunk (ap (λ (x : ChunkShown). x.chunk) f)))
    ((Decides-int_eq p.version q.version).1 (ap (λ (x : ChunkShown). x.version) f)))
    (same_ids_from p.ids q.ids (ap (λ (x : ChunkShown). x.ids) f))

-- what two parts have that agree
record DoAgree (p q : ChunkPart) : Type 0 where
  touch : p.span.end ≡ q.span.start
  chunk_is : p.chunk ≡ q.chunk
  version_is : p.version ≡ q.version
  ids_are : p.ids ≡ q.ids

agree_means : (p q : ChunkPart) → agree p q ≡ true → DoAgree p q
agree_means p q h =
    let one = and_parts (int_eq p.span.end q.span.start && same_extent p.chunk q.chunk && int_eq p.version q.version) (same_ids p.ids q.ids) h in
    let two = and_parts (int_eq p.span.end q.span.start && same_extent p.chunk q.chunk) (int_eq p.version q.version) one.0 in
    let three = and_parts (int_eq p.span.end q.span.start) (same_extent p.chunk q.chunk) two.0 in
    record {
      touch = (Decides-int_eq p.span.end q.span.start).0 three.0;
      chunk_is = same_extent_means p.chunk q.chunk three.1;
      version_is = (Decides-int_eq p.version q.version).0 two.1;
      ids_are = same_ids_means p.ids q.ids one.1;
    }

pub chunks_means_touch : (p q : ChunkPart) → agree p q ≡ true → p.span.end ≡ q.span.start
chunks_means_touch p q h = (agree_means p q h).touch

pub chunks_means_body : (p q : ChunkPart) → agree p q ≡ true → chunk_body p ≡ chunk_body q
chunks_means_body p q h = let w = agree_means p q h in
    ap (λ (e : Extent). record { chunk = e; version = p.version; ids = p.ids }) w.chunk_is
    ∙ ap (λ (v : ℤ). record { chunk = q.chunk; version = v; ids = p.ids }) w.version_is
    ∙ ap (λ (ids : List SegId). record { chunk = q.chunk; version = q.version; ids = ids }) w.ids_are

abbrev chunks_merged : ChunkPart → ChunkPart → ChunkPart
chunks_merged p q = record p { span = record { start = p.span.start; end = q.span.end } }

chunks_join : DoJoin (λ (p : ChunkPart). p.span) chunk_body agree chunks_merged
chunks_join = record { touch = chunks_touch; means_touch = chunks_means_touch; means_body = chunks_means_body; merged_span = λ p q. refl; merged_body = λ p q. refl }

chunks_fold : IsJoin (λ (p : ChunkPart). p.span) agree chunks_merged join_part join_parts
chunks_fold = record { alone = λ p. refl; next = λ p q qs. refl; none = refl; more = λ p ps. refl; touch = chunks_means_touch; merged = λ p q. refl }

-- ---- parts of the contents that agree

pub roots_whole : (p q : ContentsPart) → p.span ≡ q.span → p.roots ≡ q.roots → p ≡ q
roots_whole p q e f = ap (λ (x : Extent). record p { span = x }) e ∙ ap (λ (x : List SegId). record q { roots = x }) f

pub roots_touch : (p q : ContentsPart) → p.span.end ≡ q.span.start → p.roots ≡ q.roots → roots_agree p q ≡ true
roots_touch p q e f = and_from (int_eq p.span.end q.span.start) (same_ids p.roots q.roots) ((Decides-int_eq p.span.end q.span.start).1 e) (same_ids_from p.roots q.roots f)

roots_means_touch : (p q : ContentsPart) → roots_agree p q ≡ true → p.span.end ≡ q.span.start
roots_means_touch p q h = (Decides-int_eq p.span.end q.span.start).0 (and_parts (int_eq p.span.end q.span.start) (same_ids p.roots q.roots) h).0

abbrev pub roots_merged : ContentsPart → ContentsPart → ContentsPart
roots_merged p q = record p { span = record { start = p.span.start; end = q.span.end } }

pub roots_join : DoJoin (λ (p : ContentsPart). p.span) (λ (p : ContentsPart). p.roots) roots_agree roots_merged
roots_join = record {
  touch = roots_touch;
  means_touch = roots_means_touch;
  means_body = λ p q h. same_ids_means p.roots q.roots (and_parts (int_eq p.span.end q.span.start) (same_ids p.roots q.roots) h).1;
  merged_span = λ p q. refl;
  merged_body = λ p q. refl;
}

roots_fold : IsJoin (λ (p : ContentsPart). p.span) roots_agree roots_merged join_root join_roots
roots_fold = record { alone = λ p. refl; next = λ p q qs. refl; none = refl; more = λ p ps. refl; touch = roots_means_touch; merged = λ p q. refl }

-- ---- what is given in a piece

module _ (rows : List SegmentRow) (source : List ℕ) where
  -- a visible row is used and of the source
  pub visible_used : (t : ℤ) (r : SegmentRow) → In r (visible rows source t) → In r rows × ((r.used && bytes_eq r.id.source source) ≡ true) × (has r.id.span t ≡ true)
  visible_used t r i =
      let f = In-filter (is_visible rows source t) r rows i in
      let used = and_parts (r.used && bytes_eq r.id.source source) (has r.id.span t) (and_parts (is_used_at source t r) (tops rows source t r) f.1).0 in
      (f.0, used.0, used.1)

  same_visible : (e : Extent) (t : ℤ) → In e (source_pieces rows source) → has e t ≡ true → visible rows source t ≡ visible rows source e.start
  same_visible e t i h = all_visible_alike rows source t e.start (source_alike rows source t e.start (alike_in_piece (row_spans (used_rows rows source)) e t i h))

  same_roots : (e : Extent) (t : ℤ) → In e (source_pieces rows source) → has e t ≡ true → roots_at (visible rows source t) t ≡ roots_at (visible rows source e.start) e.start
  same_roots e t i h =
      ap (λ (vs : List SegmentRow). roots_at vs t) (same_visible e t i h)
      ∙ ap (λ (vs : List SegmentRow). in_order (map (λ r. r.root) vs)) (filter_alike (λ r. not r.tombstone && has r.root.span t) (λ r. not r.tombstone && has r.root.span e.start) (visible rows source e.start) alike) where
        alike : (r : SegmentRow) → In r (visible rows source e.start) → (not r.tombstone && has r.root.span t) ≡ (not r.tombstone && has r.root.span e.start)
        alike r j = let used = visible_used e.start r j in ap (λ (b : Bool). not r.tombstone && b) (root_span_alike rows source t e.start (alike_in_piece (row_spans (used_rows rows source)) e t i h) r used.0 used.1)

  -- an instant at which a row is visible is in a piece
  visible_in_piece : (t : ℤ) (r : SegmentRow) → In r (visible rows source t) → IsInPiece (cuts (row_spans (used_rows rows source))) t
  visible_in_piece t r i = let used = visible_used t r i in span_in_piece (row_spans (used_rows rows source)) r.id.span t (among used.0 used.1) used.2 where
    among : In r rows → (r.used && bytes_eq r.id.source source) ≡ true → In r.id.span (row_spans (used_rows rows source))
    among j on = In-gathered (λ (r : SegmentRow). r.id.span ∷ r.root.span ∷ []) (used_rows rows source) r r.id.span (filter_In (λ r. r.used && bytes_eq r.id.source source) r rows j on) (inl refl)

  -- ---- the timeline

  chunk_gives : (e : Extent) (vs : List SegmentRow) → ((t : ℤ) → has e t ≡ true → visible rows source t ≡ vs) → Gives chunks_join chunks_fold (chunk_at rows source) e (chunk_part e vs)
  chunk_gives e [] same = gives_none chunks_join chunks_fold (chunk_at rows source) e (λ t h. ap chunk_of (same t h))
  chunk_gives e (r ∷ rs) same = gives_one chunks_join chunks_fold (chunk_at rows source) e (record { span = e; chunk = r.id.span; version = r.id.version; ids = ids_shown (r ∷ rs) }) refl (λ t h. ap chunk_of (same t h))

  chunk_inside : (t : ℤ) (v : ChunkShown) (vs : List SegmentRow) → visible rows source t ≡ vs → chunk_of vs ≡ Some v → IsInPiece (cuts (row_spans (used_rows rows source))) t
  chunk_inside t v [] e h = absurd (none_not_some None v refl h)
  chunk_inside t v (r ∷ rs) e h = visible_in_piece t r (subst (λ (xs : List SegmentRow). In r xs) (sym e) (inl refl))

  pub chunk_parts_are : AreChunkParts rows source (chunk_parts rows source)
  chunk_parts_are = joined_are_parts chunks_join chunks_fold (chunk_at rows source) (λ e. chunk_part e (visible rows source e.start)) (cuts (row_spans (used_rows rows source))) (cuts_ascend (row_spans (used_rows rows source)))
      (λ e i. chunk_gives e (visible rows source e.start) (λ t h. same_visible e t i h))
      (λ t v h. chunk_inside t v (visible rows source t) refl h)

  -- ---- the contents

  roots_give : (e : Extent) (as' : List SegId) → ((t : ℤ) → has e t ≡ true → roots_at (visible rows source t) t ≡ as') → Gives roots_join roots_fold (roots_given rows source) e (roots_part e as')
  roots_give e [] same = gives_none roots_join roots_fold (roots_given rows source) e (λ t h. ap some_roots (same t h))
  roots_give e (a ∷ as') same = gives_one roots_join roots_fold (roots_given rows source) e (record { span = e; roots = a ∷ as' }) refl (λ t h. ap some_roots (same t h))

  roots_inside : (t : ℤ) (v : List SegId) (as' : List SegId) → roots_at (visible rows source t) t ≡ as' → some_roots as' ≡ Some v → IsInPiece (cuts (row_spans (used_rows rows source))) t
  roots_inside t v [] e h = absurd (none_not_some None v refl h)
  roots_inside t v (a ∷ as') e h = let w = root_of_visible rows source t a (subst (λ (xs : List SegId). In a xs) (sym e) (inl refl)) in visible_in_piece t w.0 w.1

  pub contents_are : AreRootsParts rows source (contents_of rows source)
  contents_are = joined_are_parts roots_join roots_fold (roots_given rows source) (λ e. roots_part e (roots_at (visible rows source e.start) e.start)) (cuts (row_spans (used_rows rows source))) (cuts_ascend (row_spans (used_rows rows source)))
      (λ e i. roots_give e (roots_at (visible rows source e.start) e.start) (λ t h. same_roots e t i h))
      (λ t v h. roots_inside t v (roots_at (visible rows source t) t) refl h)

-- ---- one list

pub timeline_is_determined : TimelineIsDetermined
timeline_is_determined rows source ps w = ap (map timeline_part) (one_list (λ (p : ChunkPart). p.span) chunk_body agree (chunk_at rows source) chunks_whole chunks_touch (chunk_parts rows source) ps (chunk_parts_are rows source) w)

pub timeline_is_so : TimelineIsSo
timeline_is_so rows source = (chunk_parts rows source, chunk_parts_are rows source, refl)

pub contents_are_determined : ContentsAreDetermined
contents_are_determined rows source ps w = one_list (λ (p : ContentsPart). p.span) (λ (p : ContentsPart). p.roots) roots_agree (roots_given rows source) roots_whole roots_touch (contents_of rows source) ps (contents_are rows source) w

pub contents_are_so : ContentsAreSo
contents_are_so rows source = contents_are rows source
