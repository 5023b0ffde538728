-- The looks at a span see just the rows that are visible at some instant of it, within their roots' own spans.
use Rattle.std.proofs.Common.{Bool, List, None, Option, Some, ap, arith, false, filter, find, inl, inr, int_le, int_lt, not, refl, subst, sym, true, ℕ, ℤ, ◌&&◌, ◌||◌, ◌∙◌, ◌≡◌}
use Rattle.std.proofs.lemmas.Bool.{and_from, and_parts, cases_Bool, false≢true}
use Rattle.std.proofs.lemmas.Int.{ints}
use Rattle.std.specs.List.{list_all, list_any}
use Rattle.std.specs.Ordering.{int_eq}
use Rattle.std.specs.Prelude.{bytes_eq, option_map}
use Rattle.iv_span.specs.Extent.{Extent, has, overlap}
use Rattle.book_rows.specs.Carried.{is_seen_within}
use Rattle.book_rows.specs.Lists.{In, gathered}
use Rattle.book_rows.specs.Visible.{is_used_at, is_used_over, is_visible, tops}
use Rattle.book_rows.specs.declared.rows.SegmentRow.{SegmentRow}
use Rattle.laws_locks.proofs.Lists.{both_true}
use Rattle.laws_chunks.proofs.LookUps.{find_none, find_some}
use Rattle.laws_chunks.proofs.Members.{In-filter, any_In, any_from_In, filter_In}
use Rattle.laws_chunks.proofs.PublicationOrder.{gathered_In}
use Rattle.laws_chunks.proofs.VisibleRows.{top_at}
use Rattle.laws_shown.specs.Tests.{IsSeen}
use Rattle.laws_shown.proofs.Alike.{AreUsedAlike, In-gathered, visible_alike}
use Rattle.laws_shown.proofs.Cuts.{IsLastBefore, has_alike, last_before}
use Rattle.laws_shown.proofs.Testing.{seen_is_decided}
use Rattle.timeline_view.specs.Looks.{ends_over, look_at, look_of, row_ends, sees}
use Rattle.timeline_view.specs.declared.looks.Look.{Look}
use Rattle.timeline_view.proofs.Instants.{all_lie, ends_In, has_start, outside, start_In}

-- ---- versions

equal_int : (x y : ℤ) → x ≡ y → int_eq x y ≡ true
equal_int x y e = grind (arith, ints)

same_int : (x y : ℤ) → int_eq x y ≡ true → x ≡ y
same_int x y e = grind (arith, ints)

one_int : (x y : ℤ) → int_le x y ≡ true → int_le y x ≡ true → x ≡ y
one_int x y h k = grind (arith, ints)

apart_both : (s e a b t : ℤ) → (int_lt a e && int_lt s b) ≡ false → (int_le s t && int_lt t e) ≡ true → (int_le a t && int_lt t b) ≡ false
apart_both s e a b t off h = grind (arith, ints)

meet_both : (s e a b t : ℤ) → (int_le a t && int_lt t b) ≡ true → (int_le s t && int_lt t e) ≡ true → (int_lt a e && int_lt s b) ≡ true
meet_both s e a b t on h = grind (arith, ints)

-- a span that has an instant of another meets it
pub meets : (a span : Extent) (t : ℤ) → has a t ≡ true → has span t ≡ true → overlap a span ≡ true
meets a span t on h = meet_both span.start span.end a.start a.end t on h

module _ (rows : List SegmentRow) (source : List ℕ) where
  -- two visible rows have one version
  pub one_version : (t : ℤ) (r q : SegmentRow) → In r rows → In q rows → is_visible rows source t r ≡ true → is_visible rows source t q ≡ true → q.id.version ≡ r.id.version
  one_version t r q i j h k =
      let a = and_parts (is_used_at source t r) (tops rows source t r) h in
      let b = and_parts (is_used_at source t q) (tops rows source t q) k in
      one_int q.id.version r.id.version (top_at source t rows r q a.1 j b.0) (top_at source t rows q r b.1 i a.0)

  -- a row of the version of a visible one is visible, where it is used
  of_version : (t : ℤ) (r q : SegmentRow) → q.id.version ≡ r.id.version → is_used_at source t r ≡ true → is_visible rows source t q ≡ true → is_visible rows source t r ≡ true
  of_version t r q same used k =
      let b = and_parts (is_used_at source t q) (tops rows source t q) k in
      and_from (is_used_at source t r) (tops rows source t r) used
      (subst (λ (v : ℤ). list_all (λ x. not (is_used_at source t x) || int_le x.id.version v) rows ≡ true) same b.1)

  -- ---- one look

  look_finds : (t : ℤ) (r : SegmentRow) → In r rows → is_visible rows source t r ≡ true → (l : Look) × In l (look_at rows source t) × (l.at ≡ t) × (l.version ≡ r.id.version)
  look_finds t r i h = by (find (is_visible rows source t) rows) refl where
    by : (o : Option SegmentRow) → find (is_visible rows source t) rows ≡ o
        → (l : Look) × In l (look_of t (option_map (λ (chunk : Extent × ℤ). chunk.1) (option_map (λ r. (r.id.span, r.id.version)) o))) × (l.at ≡ t) × (l.version ≡ r.id.version)
    by None e = absurd (false≢true (sym (find_none (is_visible rows source t) rows e r i) ∙ h))
    by (Some q) e =
        let w = find_some (is_visible rows source t) rows q e in
        (record { at = t; version = q.id.version }, inl refl, refl, one_version t r q i w.0 h w.1)

  look_found : (t : ℤ) (l : Look) → In l (look_at rows source t) → (q : SegmentRow) × (is_visible rows source t q ≡ true) × (l.at ≡ t) × (l.version ≡ q.id.version)
  look_found t l i = by (find (is_visible rows source t) rows) refl i where
    by : (o : Option SegmentRow) → find (is_visible rows source t) rows ≡ o → In l (look_of t (option_map (λ (chunk : Extent × ℤ). chunk.1) (option_map (λ r. (r.id.span, r.id.version)) o)))
        → (q : SegmentRow) × (is_visible rows source t q ≡ true) × (l.at ≡ t) × (l.version ≡ q.id.version)
    by None e i = absurd i
    by (Some q) e (inl same) = (q, (find_some (is_visible rows source t) rows q e).1, ap (λ (x : Look). x.at) same, ap (λ (x : Look). x.version) same)
    by (Some q) e (inr j) = absurd j

  -- ---- the rows over a span

  module _ (span : Extent) where
    abbrev over : List SegmentRow
    over = filter (is_used_over source span) rows

    abbrev pub looks_at_all : List Look
    looks_at_all = gathered (look_at rows source) (ends_over span over)

    -- between the last instant looked at and the one after nothing changes
    module _ (t : ℤ) (h : has span t ≡ true) (c : ℤ) (last : IsLastBefore (ends_over span over) t c) where
      lies : has span c ≡ true
      lies = all_lie span over c last.among

      end_alike : (r : SegmentRow) → In r over → (x : ℤ) → In x (row_ends r) → int_le x t ≡ int_le x c
      end_alike r i x j = elim (cases_Bool (has span x)) [
        | inl on ↦ last.none_between x (ends_In span x r over i j on)
        | inr off ↦ outside span x t c off h lies
      ]

      id_alike : (r : SegmentRow) → In r over → has r.id.span t ≡ has r.id.span c
      id_alike r i = has_alike r.id.span t c (end_alike r i r.id.span.start (inl refl)) (end_alike r i r.id.span.end (inr (inl refl)))

      root_alike : (r : SegmentRow) → In r over → has r.root.span t ≡ has r.root.span c
      root_alike r i = has_alike r.root.span t c (end_alike r i r.root.span.start (inr (inr (inl refl)))) (end_alike r i r.root.span.end (inr (inr (inr (inl refl)))))

      apart : (r : SegmentRow) → overlap r.id.span span ≡ false → has r.id.span t ≡ has r.id.span c
      apart r off =
          apart_both span.start span.end r.id.span.start r.id.span.end t off h
          ∙ sym (apart_both span.start span.end r.id.span.start r.id.span.end c off lies)

      used_alike : AreUsedAlike source rows t c
      used_alike r i = elim (cases_Bool (r.used && bytes_eq r.id.source source)) [
        | inr off ↦ rw off refl
        | inl on ↦ ap (λ (b : Bool). (r.used && bytes_eq r.id.source source) && b) (elim (cases_Bool (overlap r.id.span span)) [
          | inl meet ↦ id_alike r (filter_In (is_used_over source span) r rows i (and_from (r.used && bytes_eq r.id.source source) (overlap r.id.span span) on meet))
          | inr off ↦ apart r off
        ])
      ]

      seen_at : (r : SegmentRow) → In r rows → In r over → is_visible rows source t r ≡ true → has r.root.span t ≡ true → list_any (sees r) looks_at_all ≡ true
      seen_at r i j visible root =
          let shown : is_visible rows source c r ≡ true = sym (visible_alike rows source t c used_alike r i) ∙ visible in
          let used = (and_parts (is_used_at source c r) (tops rows source c r) shown).0 in
          let w = look_finds c r i shown in
          any_from_In (sees r) w.0 looks_at_all (In-gathered (look_at rows source) (ends_over span over) c w.0 last.among w.1)
          (and_from (int_eq w.0.version r.id.version && has r.id.span w.0.at) (has r.root.span w.0.at)
          (and_from (int_eq w.0.version r.id.version) (has r.id.span w.0.at) (equal_int w.0.version r.id.version w.3)
          (subst (λ (x : ℤ). has r.id.span x ≡ true) (sym w.2) (and_parts (r.used && bytes_eq r.id.source source) (has r.id.span c) used).1))
          (subst (λ (x : ℤ). has r.root.span x ≡ true) (sym w.2) (sym (root_alike r j) ∙ root)))

    seen_from : (r : SegmentRow) → In r rows → In r over → IsSeen rows source span r → list_any (sees r) looks_at_all ≡ true
    seen_from r i j w = elim (last_before (ends_over span over) w.0) [
      | inl none ↦ absurd (false≢true (sym (none span.start (start_In span over (has_start span w.0 w.1))) ∙ (and_parts (int_le span.start w.0) (int_lt w.0 span.end) w.1).0))
      | inr l ↦ seen_at w.0 w.1 l.0 l.1 r i j w.2 w.3
    ]

    seen_means : (r : SegmentRow) → In r over → list_any (sees r) looks_at_all ≡ true → IsSeen rows source span r
    seen_means r j h =
        let some = any_In (sees r) looks_at_all h in
        let at = gathered_In (look_at rows source) (ends_over span over) some.0 some.1 in
        let found = look_found at.0 some.0 at.2 in
        let all = and_parts (int_eq some.0.version r.id.version && has r.id.span some.0.at) (has r.root.span some.0.at) some.2 in
        let two = and_parts (int_eq some.0.version r.id.version) (has r.id.span some.0.at) all.0 in
        let over_is = (In-filter (is_used_over source span) r rows j).1 in
        let own = (and_parts (r.used && bytes_eq r.id.source source) (overlap r.id.span span) over_is).0 in
        let used : is_used_at source at.0 r ≡ true = and_from (r.used && bytes_eq r.id.source source) (has r.id.span at.0) own (subst (λ (x : ℤ). has r.id.span x ≡ true) found.2 two.1) in (
          at.0,
          all_lie span over at.0 at.1,
          of_version at.0 r found.0 (sym found.3 ∙ same_int some.0.version r.id.version two.0) used found.1,
          subst (λ (x : ℤ). has r.root.span x ≡ true) found.2 all.1,
        )

    pub seen_is : (r : SegmentRow) → In r rows → In r over → list_any (sees r) looks_at_all ≡ is_seen_within rows source span r
    seen_is r i j =
        let decided = seen_is_decided rows source span r i in
        both_true (list_any (sees r) looks_at_all) (is_seen_within rows source span r) (λ h. decided.1 (seen_means r j h)) (λ h. seen_from r i j (decided.0 h))

    -- a row that is seen within the span is over it
    pub seen_over : (r : SegmentRow) → In r rows → is_seen_within rows source span r ≡ true → is_used_over source span r ≡ true
    seen_over r i h =
        let w = (seen_is_decided rows source span r i).0 h in
        let used = (and_parts (is_used_at source w.0 r) (tops rows source w.0 r) w.2).0 in
        let both = and_parts (r.used && bytes_eq r.id.source source) (has r.id.span w.0) used in
        and_from (r.used && bytes_eq r.id.source source) (overlap r.id.span span) both.0 (meets r.id.span span w.0 both.1 w.1)
