-- What the printed timeline and contents say of each instant that they cover.
use Rattle.std.proofs.Common.{Bool, List, [], ap, filter, inl, inr, int_le, map, not, refl, subst, sym, true, ℕ, ℤ, ◌&&◌, ◌∙◌, ◌∷◌, ◌≡◌}
use Rattle.std.proofs.lemmas.Bool.{and_parts, false≢true}
use Rattle.std.proofs.lemmas.Bool.Decides.{Decides-int_eq}
use Rattle.std.specs.List.{list_any}
use Rattle.std.specs.Ordering.{int_eq}
use Rattle.std.specs.Prelude.{bytes_eq}
use Rattle.iv_span.specs.Extent.{Extent, has}
use Rattle.seg_names.specs.Ids.{same_extent, same_id}
use Rattle.seg_names.specs.declared.seg_id.SegId.{SegId}
use Rattle.book_rows.specs.Ids.{in_order, same_ids}
use Rattle.book_rows.specs.Lists.{In, gathered, list_links}
use Rattle.book_rows.specs.Shown.{ChunkPart, agree, chunk_part, contents_of, ids_shown, join_part, join_parts, join_root, join_roots, roots_agree, roots_at, roots_part, row_spans, source_pieces, timeline_of, timeline_part, used_rows}
use Rattle.book_rows.specs.Spans.{cuts}
use Rattle.book_rows.specs.Visible.{is_used_at, is_visible, tops, visible}
use Rattle.book_rows.specs.declared.replies.ContentsPart.{ContentsPart}
use Rattle.book_rows.specs.declared.replies.TimelinePart.{TimelinePart}
use Rattle.book_rows.specs.declared.rows.SegmentRow.{SegmentRow}
use Rattle.laws_chunks.proofs.Members.{In-filter, In-map, any_In, any_from_In, filter_In, map_In}
use Rattle.laws_chunks.proofs.PublicationOrder.{gathered_In}
use Rattle.laws_chunks.proofs.Spans.{le_cases, le_not_lt, lt_is_le, same_extent_means, same_id_means}
use Rattle.laws_chunks.proofs.VisibleRows.{top_at}
use Rattle.laws_shown.specs.Printed.{ContentsAreOfEachInstant, IsSomeVisible, IsTimelineAt, PartsAscend, PrintsInOrder, TimelineIsOfEachInstant, chunk_parts, is_after, is_next_part}
use Rattle.laws_shown.proofs.Alike.{In-gathered, all_visible_alike, filter_alike, root_span_alike, source_alike}
use Rattle.laws_shown.proofs.InOrder.{in_order_back, in_order_links}
use Rattle.laws_shown.proofs.Joining.{DoesMerge, HasPart, IsJoin, joins_cover, joins_proper, joins_right}
use Rattle.laws_shown.proofs.Linking.{IsOneOrNone, cuts_linked, is_next, joins_links, links_map, links_weaker, one_at}
use Rattle.laws_shown.proofs.Pieces.{IsInPiece, alike_in_piece, cuts_ascend, piece_proper, span_in_piece}

-- ---- ids

pub same_ids_means : (as' bs : List SegId) → same_ids as' bs ≡ true → as' ≡ bs
same_ids_means [] [] h = refl
same_ids_means [] (b ∷ bs) h = absurd (false≢true h)
same_ids_means (a ∷ as') [] h = absurd (false≢true h)
same_ids_means (a ∷ as') (b ∷ bs) h = let both = and_parts (same_id a b) (same_ids as' bs) h in rw (same_id_means a b both.0, same_ids_means as' bs both.1) refl

-- ---- how parts are joined

chunks_join : IsJoin (λ (p : ChunkPart). p.span) agree (λ (p q : ChunkPart). record p { span = record { start = p.span.start; end = q.span.end } }) join_part join_parts
chunks_join = record { alone = λ p. refl; next = λ p q qs. refl; none = refl; more = λ p ps. refl; touch = touches; merged = λ p q. refl } where
  touches : (p q : ChunkPart) → agree p q ≡ true → p.span.end ≡ q.span.start
  touches p q h =
      let one = and_parts (int_eq p.span.end q.span.start && same_extent p.chunk q.chunk && int_eq p.version q.version) (same_ids p.ids q.ids) h in
      let two = and_parts (int_eq p.span.end q.span.start && same_extent p.chunk q.chunk) (int_eq p.version q.version) one.0 in
      (Decides-int_eq p.span.end q.span.start).0 (and_parts (int_eq p.span.end q.span.start) (same_extent p.chunk q.chunk) two.0).0

roots_join : IsJoin (λ (p : ContentsPart). p.span) roots_agree (λ (p q : ContentsPart). record p { span = record { start = p.span.start; end = q.span.end } }) join_root join_roots
roots_join = record { alone = λ p. refl; next = λ p q qs. refl; none = refl; more = λ p ps. refl; touch = λ p q h. (Decides-int_eq p.span.end q.span.start).0 (and_parts (int_eq p.span.end q.span.start) (same_ids p.roots q.roots) h).0; merged = λ p q. refl }

-- the version, ids and chunk of the rows visible at the instant
record IsChunkAt (rows : List SegmentRow) (source : List ℕ) (chunk : Extent) (version : ℤ) (ids : List SegId) (t : ℤ) : Type 0 where
  first : SegmentRow
  rest : List SegmentRow
  visible_is : visible rows source t ≡ first ∷ rest
  chunk_is : chunk ≡ first.id.span
  version_is : version ≡ first.id.version
  ids_are : ids ≡ ids_shown (first ∷ rest)

abbrev IsRightChunk : List SegmentRow → List ℕ → ChunkPart → ℤ → Type 0
IsRightChunk rows source p t = IsChunkAt rows source p.chunk p.version p.ids t

chunks_merge : (rows : List SegmentRow) (source : List ℕ) → DoesMerge agree (λ (p q : ChunkPart). record p { span = record { start = p.span.start; end = q.span.end } }) (IsRightChunk rows source)
chunks_merge rows source = record { left = λ p q t h r. r; right = from_right } where
  from_right : (p q : ChunkPart) (t : ℤ) → agree p q ≡ true → IsRightChunk rows source q t → IsRightChunk rows source p t
  from_right p q t h r =
      let one = and_parts (int_eq p.span.end q.span.start && same_extent p.chunk q.chunk && int_eq p.version q.version) (same_ids p.ids q.ids) h in
      let two = and_parts (int_eq p.span.end q.span.start && same_extent p.chunk q.chunk) (int_eq p.version q.version) one.0 in
      let three = and_parts (int_eq p.span.end q.span.start) (same_extent p.chunk q.chunk) two.0 in
      record {
        first = r.first;
        rest = r.rest;
        visible_is = r.visible_is;
        chunk_is = same_extent_means p.chunk q.chunk three.1 ∙ r.chunk_is;
        version_is = (Decides-int_eq p.version q.version).0 two.1 ∙ r.version_is;
        ids_are = same_ids_means p.ids q.ids one.1 ∙ r.ids_are;
      }

-- a third part agrees with both together where it agrees with the second
chunks_last : (p q r : ChunkPart) → agree p q ≡ true → agree (record p { span = record { start = p.span.start; end = q.span.end } }) r ≡ agree q r
chunks_last p q r h =
    let one = and_parts (int_eq p.span.end q.span.start && same_extent p.chunk q.chunk && int_eq p.version q.version) (same_ids p.ids q.ids) h in
    let two = and_parts (int_eq p.span.end q.span.start && same_extent p.chunk q.chunk) (int_eq p.version q.version) one.0 in
    let three = and_parts (int_eq p.span.end q.span.start) (same_extent p.chunk q.chunk) two.0 in
    ap (λ (c : Extent). int_eq q.span.end r.span.start && same_extent c r.chunk && int_eq p.version r.version && same_ids p.ids r.ids) (same_extent_means p.chunk q.chunk three.1)
    ∙ ap (λ (v : ℤ). int_eq q.span.end r.span.start && same_extent q.chunk r.chunk && int_eq v r.version && same_ids p.ids r.ids) ((Decides-int_eq p.version q.version).0 two.1)
    ∙ ap (λ (as' : List SegId). int_eq q.span.end r.span.start && same_extent q.chunk r.chunk && int_eq q.version r.version && same_ids as' r.ids) (same_ids_means p.ids q.ids one.1)

roots_last : (p q r : ContentsPart) → roots_agree p q ≡ true → roots_agree (record p { span = record { start = p.span.start; end = q.span.end } }) r ≡ roots_agree q r
roots_last p q r h = ap (λ (as' : List SegId). int_eq q.span.end r.span.start && same_ids as' r.roots) (same_ids_means p.roots q.roots (and_parts (int_eq p.span.end q.span.start) (same_ids p.roots q.roots) h).1)

-- the roots that the rows visible at the instant stand for
record AreRootsAt (rows : List SegmentRow) (source : List ℕ) (roots : List SegId) (t : ℤ) : Type 0 where
  roots_are : roots ≡ roots_at (visible rows source t) t
  some : SegId
  among : In some roots

abbrev AreRightRoots : List SegmentRow → List ℕ → ContentsPart → ℤ → Type 0
AreRightRoots rows source p t = AreRootsAt rows source p.roots t

roots_merge : (rows : List SegmentRow) (source : List ℕ) → DoesMerge roots_agree (λ (p q : ContentsPart). record p { span = record { start = p.span.start; end = q.span.end } }) (AreRightRoots rows source)
roots_merge rows source = record { left = λ p q t h r. r; right = from_right } where
  from_right : (p q : ContentsPart) (t : ℤ) → roots_agree p q ≡ true → AreRightRoots rows source q t → AreRightRoots rows source p t
  from_right p q t h r =
      let same : p.roots ≡ q.roots = same_ids_means p.roots q.roots (and_parts (int_eq p.span.end q.span.start) (same_ids p.roots q.roots) h).1 in
      record { roots_are = same ∙ r.roots_are; some = r.some; among = subst (λ (as' : List SegId). In r.some as') (sym same) r.among }

-- ---- the pieces

le_both : (a b : ℤ) → int_le a b ≡ true → int_le b a ≡ true → a ≡ b
le_both a b h k = elim (le_cases a b h) [ inl e ↦ e | inr lt ↦ absurd (le_not_lt b a k lt) ]

module _ (rows : List SegmentRow) (source : List ℕ) where
  same_visible : (e : Extent) (t : ℤ) → In e (source_pieces rows source) → has e t ≡ true → visible rows source t ≡ visible rows source e.start
  same_visible e t i h = all_visible_alike rows source t e.start (source_alike rows source t e.start (alike_in_piece (row_spans (used_rows rows source)) e t i h))

  -- a visible row is used and of the source
  visible_used : (t : ℤ) (r : SegmentRow) → In r (visible rows source t) → In r rows × ((r.used && bytes_eq r.id.source source) ≡ true) × (has r.id.span t ≡ true)
  visible_used t r i =
      let f = In-filter (is_visible rows source t) r rows i in
      let used = and_parts (r.used && bytes_eq r.id.source source) (has r.id.span t) (and_parts (is_used_at source t r) (tops rows source t r) f.1).0 in
      (f.0, used.0, used.1)

  same_roots : (e : Extent) (t : ℤ) → In e (source_pieces rows source) → has e t ≡ true → roots_at (visible rows source t) t ≡ roots_at (visible rows source e.start) e.start
  same_roots e t i h =
      ap (λ (vs : List SegmentRow). roots_at vs t) (same_visible e t i h)
      ∙ ap (λ (vs : List SegmentRow). in_order (map (λ r. r.root) vs)) (filter_alike (λ r. not r.tombstone && has r.root.span t) (λ r. not r.tombstone && has r.root.span e.start) (visible rows source e.start) alike) where
        alike : (r : SegmentRow) → In r (visible rows source e.start) → (not r.tombstone && has r.root.span t) ≡ (not r.tombstone && has r.root.span e.start)
        alike r j = let used = visible_used e.start r j in ap (λ (b : Bool). not r.tombstone && b) (root_span_alike rows source t e.start (alike_in_piece (row_spans (used_rows rows source)) e t i h) r used.0 used.1)

  -- an instant at which a row is visible is in a piece
  visible_in_piece : (t : ℤ) (r : SegmentRow) → In r (visible rows source t) → (e : Extent) × In e (source_pieces rows source) × (has e t ≡ true)
  visible_in_piece t r i = let used = visible_used t r i in piece_of (span_in_piece (row_spans (used_rows rows source)) r.id.span t (among used.0 used.1) used.2) where
    among : In r rows → (r.used && bytes_eq r.id.source source) ≡ true → In r.id.span (row_spans (used_rows rows source))
    among j on = In-gathered (λ (r : SegmentRow). r.id.span ∷ r.root.span ∷ []) (used_rows rows source) r r.id.span (filter_In (λ r. r.used && bytes_eq r.id.source source) r rows j on) (inl refl)

    piece_of : IsInPiece (cuts (row_spans (used_rows rows source))) t → (e : Extent) × In e (source_pieces rows source) × (has e t ≡ true)
    piece_of w = (w.piece, w.among, w.inside)

  proper : (e : Extent) → In e (source_pieces rows source) → int_le e.start e.end ≡ true
  proper e i = lt_is_le e.start e.end (piece_proper (cuts (row_spans (used_rows rows source))) e (cuts_ascend (row_spans (used_rows rows source))) i)

  -- ---- the timeline

  abbrev raw_chunks : List ChunkPart
  raw_chunks = gathered (λ e. chunk_part e (visible rows source e.start)) (source_pieces rows source)

  from_chunk : (e : Extent) (vs : List SegmentRow) (p : ChunkPart) → ((t : ℤ) → has e t ≡ true → visible rows source t ≡ vs) → In p (chunk_part e vs) → (p.span ≡ e) × ((t : ℤ) → has p.span t ≡ true → IsRightChunk rows source p t)
  from_chunk e [] p same i = absurd i
  from_chunk e (r ∷ rs) p same (inl is) = subst (λ (x : ChunkPart). (x.span ≡ e) × ((t : ℤ) → has x.span t ≡ true → IsRightChunk rows source x t)) (sym is)
      (refl, λ t h. record { first = r; rest = rs; visible_is = same t h; chunk_is = refl; version_is = refl; ids_are = refl })
  from_chunk e (r ∷ rs) p same (inr i) = absurd i

  chunk_there : (e : Extent) (vs : List SegmentRow) (r : SegmentRow) → In r vs → (p : ChunkPart) × In p (chunk_part e vs) × (p.span ≡ e)
  chunk_there e [] r i = absurd i
  chunk_there e (v ∷ vs) r i = (record { span = e; chunk = v.id.span; version = v.id.version; ids = ids_shown (v ∷ vs) }, inl refl, refl)

  raw_right : (p : ChunkPart) → In p raw_chunks → (int_le p.span.start p.span.end ≡ true) × ((t : ℤ) → has p.span t ≡ true → IsRightChunk rows source p t)
  raw_right p i =
      let w = gathered_In (λ e. chunk_part e (visible rows source e.start)) (source_pieces rows source) p i in
      let f = from_chunk w.0 (visible rows source w.0.start) p (λ t h. same_visible w.0 t w.1 h) w.2 in
      (subst (λ (s : Extent). int_le s.start s.end ≡ true) (sym f.0) (proper w.0 w.1), f.1)

  chunk_right : (p : ChunkPart) → In p (join_parts raw_chunks) → (t : ℤ) → has p.span t ≡ true → IsRightChunk rows source p t
  chunk_right = joins_right chunks_join (IsRightChunk rows source) (chunks_merge rows source) raw_chunks (λ q i. (raw_right q i).1)

  chunk_covers : (t : ℤ) (r : SegmentRow) → In r (visible rows source t) → HasPart chunks_join (join_parts raw_chunks) t
  chunk_covers t r i = joins_cover chunks_join raw_chunks t (λ q k. (raw_right q k).0) (raw (visible_in_piece t r i)) where
    raw : (e : Extent) × In e (source_pieces rows source) × (has e t ≡ true) → HasPart chunks_join raw_chunks t
    raw w =
        let p = chunk_there w.0 (visible rows source w.0.start) r (subst (λ (vs : List SegmentRow). In r vs) (same_visible w.0 t w.1 w.2) i) in
        (p.0, In-gathered (λ e. chunk_part e (visible rows source e.start)) (source_pieces rows source) w.0 p.0 w.1 p.1, subst (λ (s : Extent). has s t ≡ true) (sym p.2) w.2)

  timeline_proper : (p : TimelinePart) → In p (timeline_of rows source) → int_le p.span.start p.span.end ≡ true
  timeline_proper p i =
      let w = In-map timeline_part p (join_parts raw_chunks) i in
      subst (λ (p : TimelinePart). int_le p.span.start p.span.end ≡ true) (sym w.2) (joins_proper chunks_join raw_chunks (λ q k. (raw_right q k).0) w.0 w.1)

  -- two rows that are visible at one instant have one version
  one_version : (t : ℤ) (r q : SegmentRow) → In r (visible rows source t) → In q (visible rows source t) → r.id.version ≡ q.id.version
  one_version t r q i j =
      let f = In-filter (is_visible rows source t) r rows i in
      let g = In-filter (is_visible rows source t) q rows j in
      let here = and_parts (is_used_at source t r) (tops rows source t r) f.1 in
      let there = and_parts (is_used_at source t q) (tops rows source t q) g.1 in
      le_both r.id.version q.id.version (top_at source t rows q r there.1 f.0 here.0) (top_at source t rows r q here.1 g.0 there.0)

  timeline_at : (p : ChunkPart) (t : ℤ) → IsRightChunk rows source p t → IsTimelineAt rows source (timeline_part p) t
  timeline_at p t w = record {
    version_is = λ r i. one_version t r w.first i (subst (λ (vs : List SegmentRow). In w.first vs) (sym w.visible_is) (inl refl)) ∙ sym w.version_is;
    ids_are = w.ids_are ∙ ap ids_shown (sym w.visible_is);
  }

  some_visible : (p : ChunkPart) (t : ℤ) → IsRightChunk rows source p t → IsSomeVisible rows source t
  some_visible p t w = (w.first, subst (λ (vs : List SegmentRow). In w.first vs) (sym w.visible_is) (inl refl))

  timeline_right : (p : TimelinePart) (t : ℤ) → In p (timeline_of rows source) → has p.span t ≡ true → IsTimelineAt rows source p t × IsSomeVisible rows source t
  timeline_right p t i h =
      let w = In-map timeline_part p (join_parts raw_chunks) i in
      let right = chunk_right w.0 w.1 t (subst (λ (p : TimelinePart). has p.span t ≡ true) w.2 h) in
      (subst (λ (p : TimelinePart). IsTimelineAt rows source p t) (sym w.2) (timeline_at w.0 t right), some_visible w.0 t right)

  timeline_covers : (t : ℤ) (r : SegmentRow) → In r (visible rows source t) → list_any (λ p. has p.span t) (timeline_of rows source) ≡ true
  timeline_covers t r i = let w = chunk_covers t r i in any_from_In (λ p. has p.span t) (timeline_part w.0) (timeline_of rows source) (map_In timeline_part w.0 (join_parts raw_chunks) w.1) w.2

  -- ---- the contents

  abbrev raw_contents : List ContentsPart
  raw_contents = gathered (λ e. roots_part e (roots_at (visible rows source e.start) e.start)) (source_pieces rows source)

  from_roots : (e : Extent) (as' : List SegId) (p : ContentsPart) → ((t : ℤ) → has e t ≡ true → roots_at (visible rows source t) t ≡ as') → In p (roots_part e as') → (p.span ≡ e) × ((t : ℤ) → has p.span t ≡ true → AreRightRoots rows source p t)
  from_roots e [] p same i = absurd i
  from_roots e (a ∷ as') p same (inl is) = subst (λ (x : ContentsPart). (x.span ≡ e) × ((t : ℤ) → has x.span t ≡ true → AreRightRoots rows source x t)) (sym is)
      (refl, λ t h. record { roots_are = sym (same t h); some = a; among = inl refl })
  from_roots e (a ∷ as') p same (inr i) = absurd i

  roots_there : (e : Extent) (as' : List SegId) (root : SegId) → In root as' → (p : ContentsPart) × In p (roots_part e as') × (p.span ≡ e)
  roots_there e [] root i = absurd i
  roots_there e (a ∷ as') root i = (record { span = e; roots = a ∷ as' }, inl refl, refl)

  raw_roots_right : (p : ContentsPart) → In p raw_contents → (int_le p.span.start p.span.end ≡ true) × ((t : ℤ) → has p.span t ≡ true → AreRightRoots rows source p t)
  raw_roots_right p i =
      let w = gathered_In (λ e. roots_part e (roots_at (visible rows source e.start) e.start)) (source_pieces rows source) p i in
      let f = from_roots w.0 (roots_at (visible rows source w.0.start) w.0.start) p (λ t h. same_roots w.0 t w.1 h) w.2 in
      (subst (λ (s : Extent). int_le s.start s.end ≡ true) (sym f.0) (proper w.0 w.1), f.1)

  contents_right : (p : ContentsPart) → In p (contents_of rows source) → (t : ℤ) → has p.span t ≡ true → AreRightRoots rows source p t
  contents_right = joins_right roots_join (AreRightRoots rows source) (roots_merge rows source) raw_contents (λ q i. (raw_roots_right q i).1)

  contents_proper : (p : ContentsPart) → In p (contents_of rows source) → int_le p.span.start p.span.end ≡ true
  contents_proper = joins_proper roots_join raw_contents (λ q k. (raw_roots_right q k).0)

  -- a root that visible rows stand for is that of a visible row
  pub root_of_visible : (t : ℤ) (root : SegId) → In root (roots_at (visible rows source t) t) → (r : SegmentRow) × In r (visible rows source t) × (root ≡ r.root) × ((not r.tombstone && has r.root.span t) ≡ true)
  root_of_visible t root i =
      let w = In-map (λ (r : SegmentRow). r.root) root (filter (λ r. not r.tombstone && has r.root.span t) (visible rows source t)) (in_order_back root (map (λ (r : SegmentRow). r.root) (filter (λ r. not r.tombstone && has r.root.span t) (visible rows source t))) i) in
      let f = In-filter (λ r. not r.tombstone && has r.root.span t) w.0 (visible rows source t) w.1 in
      (w.0, f.0, w.2, f.1)

  contents_cover : (t : ℤ) (root : SegId) → In root (roots_at (visible rows source t) t) → HasPart roots_join (contents_of rows source) t
  contents_cover t root i = let v = root_of_visible t root i in joins_cover roots_join raw_contents t (λ q k. (raw_roots_right q k).0) (raw (visible_in_piece t v.0 v.1)) where
    raw : (e : Extent) × In e (source_pieces rows source) × (has e t ≡ true) → HasPart roots_join raw_contents t
    raw w =
        let p = roots_there w.0 (roots_at (visible rows source w.0.start) w.0.start) root (subst (λ (as' : List SegId). In root as') (same_roots w.0 t w.1 w.2) i) in
        (p.0, In-gathered (λ e. roots_part e (roots_at (visible rows source e.start) e.start)) (source_pieces rows source) w.0 p.0 w.1 p.1, subst (λ (s : Extent). has s t ≡ true) (sym p.2) w.2)

pub timeline_is_of_each_instant : TimelineIsOfEachInstant
timeline_is_of_each_instant rows source = record {
  parts = λ p t i h. (timeline_right rows source p t i h).0;
  covers = λ t. (λ some. visible_there t (any_In (λ p. has p.span t) (timeline_of rows source) some), λ w. timeline_covers rows source t w.0 w.1);
} where
  visible_there : (t : ℤ) → (p : TimelinePart) × In p (timeline_of rows source) × (has p.span t ≡ true) → IsSomeVisible rows source t
  visible_there t w = (timeline_right rows source w.0 t w.1 w.2).1

pub contents_are_of_each_instant : ContentsAreOfEachInstant
contents_are_of_each_instant rows source = record {
  parts = λ p t i h. (contents_right rows source p i t h).roots_are;
  covers = λ t. (λ some. root_there t (any_In (λ p. has p.span t) (contents_of rows source) some), λ w. covered t (contents_cover rows source t w.0 w.1));
} where
  root_there : (t : ℤ) → (p : ContentsPart) × In p (contents_of rows source) × (has p.span t ≡ true) → (root : SegId) × In root (roots_at (visible rows source t) t)
  root_there t w = from_right w.0.roots (contents_right rows source w.0 w.1 t w.2) where
    from_right : (roots : List SegId) → AreRootsAt rows source roots t → (root : SegId) × In root (roots_at (visible rows source t) t)
    from_right roots r = (r.some, subst (λ (as' : List SegId). In r.some as') r.roots_are r.among)

  covered : (t : ℤ) → HasPart roots_join (contents_of rows source) t → list_any (λ p. has p.span t) (contents_of rows source) ≡ true
  covered t w = any_from_In (λ p. has p.span t) w.0 (contents_of rows source) w.1 w.2

-- ---- the order of the parts

chunk_one : (e : Extent) (vs : List SegmentRow) → IsOneOrNone (λ (p : ChunkPart). p.span) e (chunk_part e vs)
chunk_one e [] = inl refl
chunk_one e (r ∷ rs) = inr (record { span = e; chunk = r.id.span; version = r.id.version; ids = ids_shown (r ∷ rs) }, refl, refl)

roots_one : (e : Extent) (as' : List SegId) → IsOneOrNone (λ (p : ContentsPart). p.span) e (roots_part e as')
roots_one e [] = inl refl
roots_one e (a ∷ as') = inr (record { span = e; roots = a ∷ as' }, refl, refl)

pub parts_ascend : PartsAscend
parts_ascend rows source = (
  links_map (is_next (λ (p : ChunkPart). p.span) agree) is_after timeline_part (λ p q h. (and_parts (int_le p.span.end q.span.start) (not (agree p q)) h).0) (chunk_parts rows source) chunks,
  chunks,
  joins_links roots_join roots_last (raw_contents rows source) (cuts_linked (λ (p : ContentsPart). p.span) (λ e. roots_part e (roots_at (visible rows source e.start) e.start)) (λ e. roots_one e (roots_at (visible rows source e.start) e.start)) (cuts (row_spans (used_rows rows source))) (cuts_ascend (row_spans (used_rows rows source)))),
) where
  chunks : list_links (is_next (λ (p : ChunkPart). p.span) agree) (chunk_parts rows source) ≡ true
  chunks = joins_links chunks_join chunks_last (raw_chunks rows source) (cuts_linked (λ (p : ChunkPart). p.span) (λ e. chunk_part e (visible rows source e.start)) (λ e. chunk_one e (visible rows source e.start)) (cuts (row_spans (used_rows rows source))) (cuts_ascend (row_spans (used_rows rows source))))

-- parts that have one instant are one
module _ (rows : List SegmentRow) (source : List ℕ) (t : ℤ) where
  pub one_timeline_part : (p q : TimelinePart) → In p (timeline_of rows source) → In q (timeline_of rows source) → has p.span t ≡ true → has q.span t ≡ true → p ≡ q
  one_timeline_part = one_at (λ (p : TimelinePart). p.span) (timeline_of rows source) (parts_ascend rows source).0 (timeline_proper rows source) t

  pub one_contents_part : (p q : ContentsPart) → In p (contents_of rows source) → In q (contents_of rows source) → has p.span t ≡ true → has q.span t ≡ true → p ≡ q
  one_contents_part = one_at (λ (p : ContentsPart). p.span) (contents_of rows source) follow (contents_proper rows source) t where
    follow : list_links (λ (p q : ContentsPart). int_le p.span.end q.span.start) (contents_of rows source) ≡ true
    follow = links_weaker is_next_part (λ (p q : ContentsPart). int_le p.span.end q.span.start) (λ p q h. (and_parts (int_le p.span.end q.span.start) (not (roots_agree p q)) h).0) (contents_of rows source) (parts_ascend rows source).2

pub prints_in_order : PrintsInOrder
prints_in_order rows t = (in_order_links (map (λ (r : SegmentRow). r.id) (filter (λ r. not r.tombstone) rows)), in_order_links (map (λ (r : SegmentRow). r.root) (filter (λ r. not r.tombstone && has r.root.span t) rows)))
