-- The roots of marks are those that are shown; so the parts that show them are the contents.
use Rattle.std.proofs.Common.{Bool, List, [], ap, arith, false, filter, inl, inr, int_le, int_lt, map, not, refl, subst, sym, true, ℕ, ℤ, ◌&&◌, ◌∙◌, ◌∷◌, ◌≡◌}
use Rattle.std.specs.Prelude.{None, Option, Some, bytes_eq}
use Rattle.std.specs.Int.{int_max, int_min}
use Rattle.std.specs.Ordering.{int_eq}
use Rattle.std.proofs.lemmas.Bool.{and_from, and_parts, false≢true}
use Rattle.std.proofs.lemmas.Bool.Decides.{Decides-int_eq}
use Rattle.std.proofs.lemmas.Int.{ints}
use Rattle.iv_span.specs.Extent.{has}
use Rattle.seg_names.specs.Ids.{same_id}
use Rattle.seg_names.specs.declared.seg_id.SegId.{SegId}
use Rattle.book_rows.specs.Lists.{In}
use Rattle.book_rows.specs.Shown.{contents_of, roots_at, used_rows}
use Rattle.book_rows.specs.Visible.{is_used_at, is_visible, tops, visible}
use Rattle.book_rows.specs.declared.replies.ContentsPart.{ContentsPart}
use Rattle.book_rows.specs.declared.rows.SegmentRow.{SegmentRow}
use Rattle.laws_chunks.specs.Meaning.{IsShown}
use Rattle.laws_chunks.proofs.Members.{In-filter, In-map, filter_In, map_In}
use Rattle.laws_chunks.proofs.Spans.{le_cases, le_not_lt, same_id_from}
use Rattle.laws_chunks.proofs.VisibleRows.{top_at, tops_from}
use Rattle.laws_shown.proofs.InOrder.{in_order_links}
use Rattle.laws_shown.proofs.PrintedHistory.{roots_shown, shown_roots, stands_parts}
use Rattle.laws_parts.specs.Laws.{roots_given, some_roots}
use Rattle.laws_parts.proofs.Determined.{contents_are_determined}
use Rattle.timeline_view.specs.Chunks.{cover_of, covers_of}
use Rattle.timeline_view.specs.Contents.{AreContentsOf, AreGiven}
use Rattle.timeline_view.specs.Marks.{AreRootsOf, is_current, mark_of}
use Rattle.timeline_view.specs.Sweep.{AreStretches, stretch_span, top_of}
use Rattle.timeline_view.specs.declared.marks.Mark.{Mark}
use Rattle.timeline_view.specs.declared.sweep.Cover.{Cover}
use Rattle.timeline_view.specs.declared.sweep.Stretch.{Stretch}
use Rattle.timeline_view.proofs.Covers.{Means, top_means, version_below}
use Rattle.timeline_view.proofs.IdLists.{same_ordered}

both_have : (s e a z t : ℤ) → (int_le s t && int_lt t e) ≡ true → (int_le a t && int_lt t z) ≡ true → (int_le (int_max s a) t && int_lt t (int_min e z)) ≡ true
both_have s e a z t h k = grind (arith, ints)

first_has : (s e a z t : ℤ) → (int_le (int_max s a) t && int_lt t (int_min e z)) ≡ true → (int_le s t && int_lt t e) ≡ true
first_has s e a z t h = grind (arith, ints)

second_has : (s e a z t : ℤ) → (int_le (int_max s a) t && int_lt t (int_min e z)) ≡ true → (int_le a t && int_lt t z) ≡ true
second_has s e a z t h = grind (arith, ints)

le_both : (a b : ℤ) → int_le a b ≡ true → int_le b a ≡ true → a ≡ b
le_both a b h k = elim (le_cases a b h) [ inl e ↦ e | inr lt ↦ absurd (le_not_lt b a k lt) ]

abbrev pub marks_in : List SegmentRow → List Mark
marks_in rows = map mark_of (filter (λ r. not r.tombstone) rows)

module _ (rows : List SegmentRow) (source : List ℕ) where
  abbrev is_used : SegmentRow → Bool
  is_used r = r.used && bytes_eq r.id.source source

  cover_In : (r : SegmentRow) → In r rows → is_used r ≡ true → In (cover_of r) (covers_of (used_rows rows source))
  cover_In r i on = map_In cover_of r (used_rows rows source) (filter_In is_used r rows i on)

  row_of : (c : Cover) → In c (covers_of (used_rows rows source)) → (r : SegmentRow) × In r rows × (is_used r ≡ true) × (cover_of r ≡ c)
  row_of c i =
      let w = In-map cover_of c (used_rows rows source) i in
      let f = In-filter is_used w.0 rows w.1 in
      (w.0, f.0, f.1, sym w.2)

  module _ (t : ℤ) (c : Cover) (top : top_of (covers_of (used_rows rows source)) t ≡ Some c) where
    means : Means (covers_of (used_rows rows source)) t (Some c)
    means = subst (λ (o : Option Cover). Means (covers_of (used_rows rows source)) t o) top (top_means (covers_of (used_rows rows source)) t)

    -- no used row there has a greater version
    at_most : (n : SegmentRow) → In n rows → is_used_at source t n ≡ true → int_le n.id.version c.version ≡ true
    at_most n i h = let both = and_parts (is_used n) (has n.id.span t) h in version_below c (cover_of n) (means.2 (cover_of n) (cover_In n i both.0) both.1)

    -- a visible row has the version on top
    visible_version : (r : SegmentRow) → In r rows → is_visible rows source t r ≡ true → r.id.version ≡ c.version
    visible_version r i h =
        let seen = and_parts (is_used_at source t r) (tops rows source t r) h in
        let q = row_of c means.0 in
        let there : is_used_at source t q.0 ≡ true = and_from (is_used q.0) (has q.0.id.span t) q.2 (subst (λ (x : Cover). has x.span t ≡ true) (sym q.3) means.1) in
        le_both r.id.version c.version (at_most r i seen.0) (subst (λ (x : Cover). int_le x.version r.id.version ≡ true) q.3 (top_at source t rows r q.0 seen.1 q.1 there))

    -- and a used row there that has it is visible
    version_visible : (r : SegmentRow) → In r rows → is_used_at source t r ≡ true → r.id.version ≡ c.version → is_visible rows source t r ≡ true
    version_visible r i on same = and_from (is_used_at source t r) (tops rows source t r) on (tops_from source t rows r (λ n j h. subst (λ (v : ℤ). int_le n.id.version v ≡ true) (sym same) (at_most n j h)))

    roots_there : (roots : List SegId) → AreRootsOf (marks_in (used_rows rows source)) c.version t roots → (a : SegId) → In a (roots_at (visible rows source t) t) → In a roots
    roots_there roots w a i = go (roots_shown rows source t a i) where
      go : IsShown rows source t a → In a roots
      go s =
          let seen = and_parts (is_used_at source t s.0) (tops rows source t s.0) s.2 in
          let used = and_parts (is_used s.0) (has s.0.id.span t) seen.0 in
          let stands = stands_parts rows source t a s.0 s.3 in
          subst (λ (x : SegId). In x roots) stands.2
          (w.all (mark_of s.0) (map_In mark_of s.0 (filter (λ (r : SegmentRow). not r.tombstone) (used_rows rows source)) (filter_In (λ (r : SegmentRow). not r.tombstone) s.0 (used_rows rows source) (filter_In is_used s.0 rows s.1 used.0) stands.0))
          (and_from (int_eq s.0.id.version c.version) (int_le (int_max s.0.id.span.start s.0.root.span.start) t && int_lt t (int_min s.0.id.span.end s.0.root.span.end)) ((Decides-int_eq s.0.id.version c.version).1 (visible_version s.0 s.1 s.2))
          (both_have s.0.id.span.start s.0.id.span.end s.0.root.span.start s.0.root.span.end t used.1 (subst (λ (x : SegId). has x.span t ≡ true) (sym stands.2) stands.1))))

    roots_back : (roots : List SegId) → AreRootsOf (marks_in (used_rows rows source)) c.version t roots → (a : SegId) → In a roots → In a (roots_at (visible rows source t) t)
    roots_back roots w a i =
        let f = w.from a i in
        let r = In-map mark_of f.0 (filter (λ (r : SegmentRow). not r.tombstone) (used_rows rows source)) f.1 in
        let kept = In-filter (λ (r : SegmentRow). not r.tombstone) r.0 (used_rows rows source) r.1 in
        let used = In-filter is_used r.0 rows kept.0 in
        let on : is_current c.version t (mark_of r.0) ≡ true = subst (λ (m : Mark). is_current c.version t m ≡ true) r.2 f.2 in
        let parts = and_parts (int_eq r.0.id.version c.version) (int_le (int_max r.0.id.span.start r.0.root.span.start) t && int_lt t (int_min r.0.id.span.end r.0.root.span.end)) on in
        let here : has r.0.id.span t ≡ true = first_has r.0.id.span.start r.0.id.span.end r.0.root.span.start r.0.root.span.end t parts.1 in
        let own : has r.0.root.span t ≡ true = second_has r.0.id.span.start r.0.id.span.end r.0.root.span.start r.0.root.span.end t parts.1 in
        let root_is : r.0.root ≡ a = sym (ap (λ (m : Mark). m.root) r.2) ∙ f.3 in
        subst (λ (x : SegId). In x (roots_at (visible rows source t) t)) root_is
        (shown_roots rows source t r.0.root (
          r.0,
          used.0,
          version_visible r.0 used.0 (and_from (is_used r.0) (has r.0.id.span t) used.1 here) ((Decides-int_eq r.0.id.version c.version).0 parts.0),
          and_from (not r.0.tombstone) (has r.0.root.span t && same_id r.0.root r.0.root) kept.1 (and_from (has r.0.root.span t) (same_id r.0.root r.0.root) own (same_id_from r.0.root r.0.root refl)),
        ))

    roots_are : (roots : List SegId) → AreRootsOf (marks_in (used_rows rows source)) c.version t roots → roots_given rows source t ≡ some_roots roots
    roots_are roots w = ap some_roots (same_ordered (roots_at (visible rows source t) t) roots (in_order_links (map (λ (r : SegmentRow). r.root) (filter (λ (r : SegmentRow). not r.tombstone && has r.root.span t) (visible rows source t)))) w.linked (roots_there roots w) (roots_back roots w))

  -- where nothing is on top no root is shown
  none_shown : (ps : List Stretch) → AreStretches (covers_of (used_rows rows source)) ps → (t : ℤ) → ((p : Stretch) → In p ps → has (stretch_span p) t ≡ false) → roots_given rows source t ≡ None
  none_shown ps st t off = go (roots_at (visible rows source t) t) refl where
    seen : (r : SegmentRow) → In r rows → is_used_at source t r ≡ true → (o : Option Cover) → top_of (covers_of (used_rows rows source)) t ≡ o → Means (covers_of (used_rows rows source)) t o → ⊥
    seen r i on None e m = let both = and_parts (is_used r) (has r.id.span t) on in false≢true (sym (m (cover_of r) (cover_In r i both.0)) ∙ both.1)
    seen r i on (Some c) e m = let k = st.covers t c e in false≢true (sym (off k.0 k.1) ∙ k.2)

    go : (as' : List SegId) → roots_at (visible rows source t) t ≡ as' → some_roots as' ≡ None
    go [] e = refl
    go (a ∷ as') e =
        let s = roots_shown rows source t a (subst (λ (xs : List SegId). In a xs) (sym e) (inl refl)) in
        absurd (seen s.0 s.1 (and_parts (is_used_at source t s.0) (tops rows source t s.0) s.2).0 (top_of (covers_of (used_rows rows source)) t) refl (top_means (covers_of (used_rows rows source)) t))

  pub rows_give : (ps : List Stretch) → AreStretches (covers_of (used_rows rows source)) ps → AreGiven ps (marks_in (used_rows rows source)) (roots_given rows source)
  rows_give ps st = record { inside = λ p t roots i h w. roots_are t p.top (st.right p t i h) roots w; outside = none_shown ps st }

  pub parts_are_contents : (ps : List Stretch) (qs : List ContentsPart) → AreStretches (covers_of (used_rows rows source)) ps → AreContentsOf ps (marks_in (used_rows rows source)) qs → qs ≡ contents_of rows source
  parts_are_contents ps qs st w = sym (contents_are_determined rows source qs (w (roots_given rows source) (rows_give ps st)))
