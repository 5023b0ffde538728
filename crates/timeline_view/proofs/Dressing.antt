-- What is on top at an instant is the chunk that is visible; so the parts of the stretches are the timeline.
use Rattle.std.proofs.Common.{Bool, List, [], ap, filter, inl, inr, int_le, int_lt, map, not, refl, subst, sym, true, false, ℕ, ℤ, ◌&&◌, ◌∙◌, ◌∷◌, ◌≡◌, arith, get_or, length, ◌<◌, ◌<ℤ◌}
use Rattle.std.specs.Prelude.{None, Option, Some, bytes_eq}
use Rattle.std.proofs.lemmas.Bool.{and_from, and_parts, false≢true}
use Rattle.std.proofs.lemmas.Int.{ints}
use Rattle.iv_span.specs.Extent.{Extent, has}
use Rattle.seg_names.specs.declared.seg_id.SegId.{SegId}
use Rattle.book_rows.specs.Lists.{In, list_links}
use Rattle.book_rows.specs.Shown.{ChunkPart, agree, ids_shown, timeline_of, timeline_part, used_rows}
use Rattle.book_rows.specs.Visible.{is_used_at, is_visible, tops, visible}
use Rattle.book_rows.specs.declared.replies.TimelinePart.{TimelinePart}
use Rattle.book_rows.specs.declared.rows.SegmentRow.{SegmentRow}
use Rattle.laws_chunks.proofs.IdOrder.{in_order_In}
use Rattle.laws_chunks.proofs.Members.{In-filter, In-map, filter_In, map_In}
use Rattle.laws_chunks.proofs.Spans.{le_cases, le_not_lt}
use Rattle.laws_chunks.proofs.VisibleRows.{top_at, tops_from}
use Rattle.laws_shown.proofs.InOrder.{in_order_back, in_order_links}
use Rattle.timeline_view.specs.Chunks.{AreChunkIds, ArePartsOf, cover_of, covers_of}
use Rattle.laws_parts.specs.OneSpan.{ShareOneSpan}
use Rattle.laws_parts.specs.Laws.{AreChunkParts, ChunkShown, chunk_at, chunk_body, chunk_of}
use Rattle.laws_parts.specs.Parts.{HasInstant, goes_on}
use Rattle.timeline_view.specs.Sweep.{AreStretches, stretch_span, stretches_agree, top_of}
use Rattle.timeline_view.specs.declared.sweep.Cover.{Cover}
use Rattle.timeline_view.specs.declared.sweep.Stretch.{Stretch}
use Rattle.timeline_view.proofs.Covers.{Means, covers_whole, stretches_join, top_means, version_below}
use Rattle.laws_parts.proofs.Determined.{chunks_means_body, chunks_means_touch, timeline_is_determined, visible_used}
use Rattle.timeline_view.proofs.IdLists.{same_ordered}
use Rattle.timeline_view.proofs.Places.{at_this}
use Rattle.laws_parts.proofs.Unique.{none_not_some, not_both}

le_le_same : (a b : ℤ) → int_le a b ≡ true → int_le b a ≡ true → a ≡ b
le_le_same a b h k = elim (le_cases a b h) [ inl e ↦ e | inr lt ↦ absurd (le_not_lt b a k lt) ]

-- two rows that are visible at one instant have one version
one_version : (rows : List SegmentRow) (source : List ℕ) (t : ℤ) (r q : SegmentRow) → In r (visible rows source t) → In q (visible rows source t) → r.id.version ≡ q.id.version
one_version rows source t r q i j =
    let f = In-filter (is_visible rows source t) r rows i in
    let g = In-filter (is_visible rows source t) q rows j in
    let here = and_parts (is_used_at source t r) (tops rows source t r) f.1 in
    let there = and_parts (is_used_at source t q) (tops rows source t q) g.1 in
    le_le_same r.id.version q.id.version (top_at source t rows q r there.1 f.0 here.0) (top_at source t rows r q here.1 g.0 there.0)

module _ (rows : List SegmentRow) (source : List ℕ) (one : ShareOneSpan rows source) where
  -- a cover is that of a used row
  row_of : (c : Cover) → In c (covers_of (used_rows rows source)) → (r : SegmentRow) × In r rows × ((r.used && bytes_eq r.id.source source) ≡ true) × (cover_of r ≡ c)
  row_of c i =
      let w = In-map cover_of c (used_rows rows source) i in
      let f = In-filter (λ (r : SegmentRow). r.used && bytes_eq r.id.source source) w.0 rows w.1 in
      (w.0, f.0, f.1, sym w.2)

  cover_In : (r : SegmentRow) → In r rows → (r.used && bytes_eq r.id.source source) ≡ true → In (cover_of r) (covers_of (used_rows rows source))
  cover_In r i on = map_In cover_of r (used_rows rows source) (filter_In (λ (r : SegmentRow). r.used && bytes_eq r.id.source source) r rows i on)

  -- two chunks of one version that share an instant are one
  covers_are_one : (c d : Cover) (t : ℤ) → In c (covers_of (used_rows rows source)) → In d (covers_of (used_rows rows source)) → has c.span t ≡ true → has d.span t ≡ true → c.version ≡ d.version → c ≡ d
  covers_are_one c d t i j h k same =
      let r = row_of c i in
      let q = row_of d j in
      covers_whole c d same (sym (ap (λ (x : Cover). x.span) r.3) ∙ one r.0 q.0 t r.1 q.1
      (and_from (r.0.used && bytes_eq r.0.id.source source) (has r.0.id.span t) r.2 (subst (λ (x : Cover). has x.span t ≡ true) (sym r.3) h))
      (and_from (q.0.used && bytes_eq q.0.id.source source) (has q.0.id.span t) q.2 (subst (λ (x : Cover). has x.span t ≡ true) (sym q.3) k))
      (ap (λ (x : Cover). x.version) r.3 ∙ same ∙ sym (ap (λ (x : Cover). x.version) q.3)) ∙ ap (λ (x : Cover). x.span) q.3)

  module _ (t : ℤ) (c : Cover) (top : top_of (covers_of (used_rows rows source)) t ≡ Some c) where
    means : Means (covers_of (used_rows rows source)) t (Some c)
    means = subst (λ (o : Option Cover). Means (covers_of (used_rows rows source)) t o) top (top_means (covers_of (used_rows rows source)) t)

    -- a used row of that chunk is visible
    chunk_visible : (r : SegmentRow) → In r rows → (r.used && bytes_eq r.id.source source) ≡ true → cover_of r ≡ c → In r (visible rows source t)
    chunk_visible r i on is = filter_In (is_visible rows source t) r rows i (and_from (is_used_at source t r) (tops rows source t r)
        (and_from (r.used && bytes_eq r.id.source source) (has r.id.span t) on (subst (λ (x : Cover). has x.span t ≡ true) (sym is) means.1))
        (tops_from source t rows r low)) where
          low : (n : SegmentRow) → In n rows → is_used_at source t n ≡ true → int_le n.id.version r.id.version ≡ true
          low n j h = let both = and_parts (n.used && bytes_eq n.id.source source) (has n.id.span t) h in
              subst (λ (x : Cover). int_le n.id.version x.version ≡ true) (sym is) (version_below c (cover_of n) (means.2 (cover_of n) (cover_In n j both.0) both.1))

    -- a visible row is of that chunk
    visible_chunk : (r : SegmentRow) → In r (visible rows source t) → cover_of r ≡ c
    visible_chunk r i =
        let used = visible_used rows source t r i in
        let q = row_of c means.0 in
        let seen = chunk_visible q.0 q.1 q.2 q.3 in
        let there = visible_used rows source t q.0 seen in
        covers_are_one (cover_of r) c t (cover_In r used.0 used.1) means.0 used.2 means.1 (one_version rows source t r q.0 i seen ∙ ap (λ (x : Cover). x.version) q.3)

    ids_same : (ids : List SegId) → AreChunkIds (used_rows rows source) c ids → ids_shown (visible rows source t) ≡ ids
    ids_same ids w = same_ordered (ids_shown (visible rows source t)) ids (in_order_links (map (λ (r : SegmentRow). r.id) (filter (λ (r : SegmentRow). not r.tombstone) (visible rows source t)))) w.linked there back where
      there : (a : SegId) → In a (ids_shown (visible rows source t)) → In a ids
      there a i =
          let m = In-map (λ (r : SegmentRow). r.id) a (filter (λ (r : SegmentRow). not r.tombstone) (visible rows source t)) (in_order_back a (map (λ (r : SegmentRow). r.id) (filter (λ (r : SegmentRow). not r.tombstone) (visible rows source t))) i) in
          let f = In-filter (λ (r : SegmentRow). not r.tombstone) m.0 (visible rows source t) m.1 in
          let used = visible_used rows source t m.0 f.0 in
          subst (λ (x : SegId). In x ids) (sym m.2) (w.all m.0 (filter_In (λ (r : SegmentRow). r.used && bytes_eq r.id.source source) m.0 rows used.0 used.1) f.1 (visible_chunk m.0 f.0))

      back : (a : SegId) → In a ids → In a (ids_shown (visible rows source t))
      back a i =
          let r = w.from a i in
          let used = In-filter (λ (r : SegmentRow). r.used && bytes_eq r.id.source source) r.0 rows r.1 in
          subst (λ (x : SegId). In x (ids_shown (visible rows source t))) r.3
          (in_order_In r.0.id (map (λ (r : SegmentRow). r.id) (filter (λ (r : SegmentRow). not r.tombstone) (visible rows source t)))
          (map_In (λ (r : SegmentRow). r.id) r.0 (filter (λ (r : SegmentRow). not r.tombstone) (visible rows source t))
          (filter_In (λ (r : SegmentRow). not r.tombstone) r.0 (visible rows source t) (chunk_visible r.0 used.0 used.1 r.4) r.2)))

    pub chunk_on_top : (ids : List SegId) → AreChunkIds (used_rows rows source) c ids → chunk_at rows source t ≡ Some (record { chunk = c.span; version = c.version; ids = ids })
    chunk_on_top ids w = go (visible rows source t) refl where
      some : In (row_of c means.0).0 (visible rows source t)
      some = let q = row_of c means.0 in chunk_visible q.0 q.1 q.2 q.3

      go : (vs : List SegmentRow) → visible rows source t ≡ vs → chunk_of vs ≡ Some (record { chunk = c.span; version = c.version; ids = ids })
      go [] e = absurd (subst (λ (xs : List SegmentRow). In (row_of c means.0).0 xs) e some)
      go (v ∷ vs) e =
          let is = visible_chunk v (subst (λ (xs : List SegmentRow). In v xs) (sym e) (inl refl)) in
          ap (λ (x : Cover). Some (record { chunk = x.span; version = x.version; ids = ids_shown (v ∷ vs) })) is
          ∙ ap (λ (as' : List SegId). Some (record { chunk = c.span; version = c.version; ids = as' })) (ap ids_shown (sym e) ∙ ids_same ids w)

  pub visible_has_top : (t : ℤ) (v : ChunkShown) → chunk_at rows source t ≡ Some v → (c : Cover) × (top_of (covers_of (used_rows rows source)) t ≡ Some c)
  visible_has_top t v h = go (visible rows source t) refl h where
    at : (r : SegmentRow) → In r (visible rows source t) → (o : Option Cover) → Means (covers_of (used_rows rows source)) t o → (c : Cover) × (o ≡ Some c)
    at r i None m = let used = visible_used rows source t r i in absurd (false≢true (sym (m (cover_of r) (cover_In r used.0 used.1)) ∙ used.2))
    at r i (Some c) m = (c, refl)

    go : (vs : List SegmentRow) → visible rows source t ≡ vs → chunk_of vs ≡ Some v → (c : Cover) × (top_of (covers_of (used_rows rows source)) t ≡ Some c)
    go [] e k = absurd (none_not_some None v refl k)
    go (r ∷ rs) e k = at r (subst (λ (xs : List SegmentRow). In r xs) (sym e) (inl refl)) (top_of (covers_of (used_rows rows source)) t) (top_means (covers_of (used_rows rows source)) t)

-- ---- the parts

abbrev pub dress : Stretch → TimelinePart → ChunkPart
dress p q = record { span = stretch_span p; chunk = p.top.span; version = p.top.version; ids = q.ids }

abbrev pub dressed : List Stretch → List TimelinePart → List ChunkPart
dressed [] qs = []
dressed (p ∷ ps) [] = []
dressed (p ∷ ps) (q ∷ qs) = dress p q ∷ dressed ps qs

module _ (rows : List SegmentRow) (source : List ℕ) where
  undressed : (ps : List Stretch) (qs : List TimelinePart) → ArePartsOf (used_rows rows source) ps qs → map timeline_part (dressed ps qs) ≡ qs
  undressed [] [] w = refl
  undressed [] (q ∷ qs) w = absurd w
  undressed (p ∷ ps) [] w = absurd w
  undressed (p ∷ ps) (q ∷ qs) w = rw (first, undressed ps qs w.1) refl where
    first : timeline_part (dress p q) ≡ q
    first = ap (λ (e : Extent). record q { span = e; version = p.top.version }) (sym w.0.span_is) ∙ ap (λ (v : ℤ). record q { version = v }) (sym w.0.version_is)

  record IsDressed (x : ChunkPart) (ps : List Stretch) : Type 0 where
    of : Stretch
    among : In of ps
    span_is : x.span ≡ stretch_span of
    chunk_is : x.chunk ≡ of.top.span
    version_is : x.version ≡ of.top.version
    ids_are : AreChunkIds (used_rows rows source) of.top x.ids

  dressed_In : (ps : List Stretch) (qs : List TimelinePart) → ArePartsOf (used_rows rows source) ps qs → (x : ChunkPart) → In x (dressed ps qs) → IsDressed x ps
  dressed_In [] [] w x i = absurd i
  dressed_In [] (q ∷ qs) w x i = absurd w
  dressed_In (p ∷ ps) [] w x i = absurd w
  dressed_In (p ∷ ps) (q ∷ qs) w x (inl e) = subst (λ (y : ChunkPart). IsDressed y (p ∷ ps)) (sym e) (record { of = p; among = inl refl; span_is = refl; chunk_is = refl; version_is = refl; ids_are = w.0.ids_are })
  dressed_In (p ∷ ps) (q ∷ qs) w x (inr i) = let d = dressed_In ps qs w.1 x i in record { of = d.of; among = inr d.among; span_is = d.span_is; chunk_is = d.chunk_is; version_is = d.version_is; ids_are = d.ids_are }

  In_dressed : (ps : List Stretch) (qs : List TimelinePart) → ArePartsOf (used_rows rows source) ps qs → (p : Stretch) → In p ps → (x : ChunkPart) × In x (dressed ps qs) × (x.span ≡ stretch_span p)
  In_dressed [] qs w p i = absurd i
  In_dressed (y ∷ ps) [] w p i = absurd w
  In_dressed (y ∷ ps) (q ∷ qs) w p (inl e) = (dress y q, inl refl, ap stretch_span (sym e))
  In_dressed (y ∷ ps) (q ∷ qs) w p (inr i) = let d = In_dressed ps qs w.1 p i in (d.0, inr d.1, d.2)

  goes_on_dressed : (p r : Stretch) (q s : TimelinePart) → goes_on stretch_span stretches_agree p r ≡ true → goes_on (λ (x : ChunkPart). x.span) agree (dress p q) (dress r s) ≡ true
  goes_on_dressed p r q s h = let both = and_parts (int_le p.end r.start) (not (stretches_agree p r)) h in and_from (int_le p.end r.start) (not (agree (dress p q) (dress r s))) both.0 (apart both.1 (agree (dress p q) (dress r s)) refl) where
    apart : not (stretches_agree p r) ≡ true → (b : Bool) → agree (dress p q) (dress r s) ≡ b → not (agree (dress p q) (dress r s)) ≡ true
    apart n false off = ap not off
    apart n true on = absurd (not_both (stretches_agree p r) (stretches_join.touch p r (chunks_means_touch (dress p q) (dress r s) on) (covers_whole p.top r.top (ap (λ (x : ChunkShown). x.version) (chunks_means_body (dress p q) (dress r s) on)) (ap (λ (x : ChunkShown). x.chunk) (chunks_means_body (dress p q) (dress r s) on)))) n)

  links_dressed : (ps : List Stretch) (qs : List TimelinePart) → list_links (goes_on stretch_span stretches_agree) ps ≡ true → list_links (goes_on (λ (x : ChunkPart). x.span) agree) (dressed ps qs) ≡ true
  links_dressed [] qs links = refl
  links_dressed (p ∷ ps) [] links = refl
  links_dressed (p ∷ []) (q ∷ qs) links = refl
  links_dressed (p ∷ r ∷ ps) (q ∷ []) links = refl
  links_dressed (p ∷ r ∷ ps) (q ∷ s ∷ qs) links =
      let both = and_parts (goes_on stretch_span stretches_agree p r) (list_links (goes_on stretch_span stretches_agree) (r ∷ ps)) links in
      and_from (goes_on (λ (x : ChunkPart). x.span) agree (dress p q) (dress r s)) (list_links (goes_on (λ (x : ChunkPart). x.span) agree) (dressed (r ∷ ps) (s ∷ qs))) (goes_on_dressed p r q s both.0) (links_dressed (r ∷ ps) (s ∷ qs) both.1)

  pub dressed_are : ShareOneSpan rows source → (ps : List Stretch) (qs : List TimelinePart) → AreStretches (covers_of (used_rows rows source)) ps → ArePartsOf (used_rows rows source) ps qs → AreChunkParts rows source (dressed ps qs)
  dressed_are one ps qs st w = record {
    linked = links_dressed ps qs st.linked;
    proper = λ x i. let d = dressed_In ps qs w x i in subst (λ (e : Extent). int_lt e.start e.end ≡ true) (sym d.span_is) (st.proper d.of d.among);
    right = λ x t i h. right x t (dressed_In ps qs w x i) h;
    covers = λ t v h. covers t (visible_has_top rows source one t v h);
  } where
    right : (x : ChunkPart) (t : ℤ) → IsDressed x ps → has x.span t ≡ true → chunk_at rows source t ≡ Some (chunk_body x)
    right x t d h =
        chunk_on_top rows source one t d.of.top (st.right d.of t d.among (subst (λ (e : Extent). has e t ≡ true) d.span_is h)) x.ids d.ids_are
        ∙ sym (ap (λ (e : Extent). Some (record { chunk = e; version = x.version; ids = x.ids })) d.chunk_is ∙ ap (λ (v : ℤ). Some (record { chunk = d.of.top.span; version = v; ids = x.ids })) d.version_is)

    covers : (t : ℤ) → (c : Cover) × (top_of (covers_of (used_rows rows source)) t ≡ Some c) → HasInstant (λ (x : ChunkPart). x.span) (dressed ps qs) t
    covers t m =
        let k = st.covers t m.0 m.1 in
        let d = In_dressed ps qs w k.0 k.1 in
        (d.0, d.1, subst (λ (e : Extent). has e t ≡ true) (sym d.2) k.2)

  pub parts_are_timeline : ShareOneSpan rows source → (ps : List Stretch) (qs : List TimelinePart) → AreStretches (covers_of (used_rows rows source)) ps → ArePartsOf (used_rows rows source) ps qs → qs ≡ timeline_of rows source
  parts_are_timeline one ps qs st w = sym (timeline_is_determined rows source (dressed ps qs) (dressed_are one ps qs st w) ∙ undressed ps qs w)

-- a stretch isn't empty
pub stretch_proper : (cs : List Cover) (ps : List Stretch) (p : Stretch) (i : ℕ) → i < length ps → p ≡ get_or ps i p → AreStretches cs ps → p.start <ℤ p.end
stretch_proper cs ps p i lt is w = lt_is p.start p.end (w.proper p (at_this ps p p i lt is)) where
  lt_is : (a b : ℤ) → int_lt a b ≡ true → a <ℤ b
  lt_is a b h = grind (arith, ints)
