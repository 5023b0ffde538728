-- What is on top among the rows over a span is what is visible there, and a stretch that has the instant tells it.
use Rattle.std.proofs.Common.{List, None, Option, Some, ap, arith, false, filter, find, get_or, inl, inr, int_le, int_lt, length, refl, slice_get, subst, suc, sym, true, zero, ℕ, ℤ, ◌&&◌, ◌<◌, ◌≤◌, ◌∙◌, ◌∷◌, ◌≡◌, ◌⊎◌, [], option_map}
use Rattle.std.specs.Prelude.{bytes_eq}
use Rattle.std.specs.List.Sorted.{IsPartitionPoint, IsPartitionedBy}
use Rattle.std.proofs.lemmas.Bool.{and_from, and_parts, false≢true}
use Rattle.std.proofs.lemmas.Int.{ints}
use Rattle.std.proofs.lemmas.List.{get_or_default}
use Rattle.iv_span.specs.Extent.{Extent, has, overlap}
use Rattle.book_rows.specs.Lists.{In, gathered}
use Rattle.book_rows.specs.Visible.{is_used_at, is_used_over, is_visible, tops}
use Rattle.book_rows.specs.declared.rows.SegmentRow.{SegmentRow}
use Rattle.laws_chunks.proofs.LookUps.{find_none, find_some}
use Rattle.laws_chunks.proofs.Members.{In-filter, In-map, filter_In, map_In}
use Rattle.laws_chunks.proofs.VisibleRows.{tops_from}
use Rattle.timeline_view.specs.Chunks.{cover_of, covers_of}
use Rattle.timeline_view.specs.Contents.{AreAscending}
use Rattle.timeline_view.specs.Looks.{is_past, look_at, look_in, look_of, look_on, version_in}
use Rattle.timeline_view.specs.Sweep.{AreStretches, stretch_span, top_of}
use Rattle.timeline_view.specs.declared.sweep.Cover.{Cover}
use Rattle.timeline_view.specs.declared.sweep.Stretch.{Stretch}
use Rattle.timeline_view.proofs.Covers.{Means, top_means, version_below}
use Rattle.timeline_view.proofs.Places.{In_at, at_In, got, got_In}
use Rattle.timeline_view.proofs.Seeing.{meets, one_version}

-- ---- places

by_order : (i j : ℕ) → (i < j) ⊎ ((i ≡ j) ⊎ (j < i))
by_order zero zero = inr (inl refl)
by_order zero (suc j) = inl (omega arith)
by_order (suc i) zero = inr (inr (omega arith))
by_order (suc i) (suc j) = one_more (by_order i j) where
  one_more : (i < j) ⊎ ((i ≡ j) ⊎ (j < i)) → (suc i < suc j) ⊎ ((suc i ≡ suc j) ⊎ (suc j < suc i))
  one_more (inl less) = inl (omega (arith, less))
  one_more (inr (inl same)) = inr (inl (ap suc same))
  one_more (inr (inr more)) = inr (inr (omega (arith, more)))

-- ---- stretches that ascend

-- none that ends later stands before one that ends by the instant
pub past_splits : (t : ℤ) (ps : List Stretch) → AreAscending ps → IsPartitionedBy (is_past t) ps
past_splits t ps up i j d le lt on = go (by_order i j) where
  earlier : (e a z t : ℤ) → int_le e a ≡ true → int_lt a z ≡ true → int_le z t ≡ true → int_le e t ≡ true
  earlier e a z t h k l = grind (arith, ints)

  go : (i < j) ⊎ ((i ≡ j) ⊎ (j < i)) → is_past t (get_or ps i d) ≡ true
  go (inl less) = earlier (get_or ps i d).end (get_or ps j d).start (get_or ps j d).end t (up.apart i j d less lt) (up.proper (get_or ps j d) (at_In ps (get_or ps j d) j lt (get_or_default ps j (get_or ps j d) d lt))) on
  go (inr (inl same)) = subst (λ (k : ℕ). is_past t (get_or ps k d) ≡ true) (sym same) on
  go (inr (inr more)) = absurd (omega (arith, le, more))

module _ (ps : List Stretch) (up : AreAscending ps) (t : ℤ) where
  -- two that have one instant are one
  one_has : (p q : Stretch) → In p ps → In q ps → has (stretch_span p) t ≡ true → has (stretch_span q) t ≡ true → p ≡ q
  one_has p q i j h k = go (In_at ps p i) (In_at ps q j) where
    clash : (s e a z : ℤ) → int_le e a ≡ true → (int_le s t && int_lt t e) ≡ true → (int_le a t && int_lt t z) ≡ true → ⊥
    clash s e a z apart h k = grind (arith, ints)

    after : (x y : Stretch) (m n : ℕ) → m < n → n < length ps → get_or ps m x ≡ x → get_or ps n y ≡ y → has (stretch_span x) t ≡ true → has (stretch_span y) t ≡ true → ⊥
    after x y m n less lt e f hx hy = clash x.start x.end y.start y.end
        (subst (λ (u : Stretch). int_le x.end u.start ≡ true) (get_or_default ps n x y lt ∙ f) (subst (λ (u : Stretch). int_le u.end (get_or ps n x).start ≡ true) e (up.apart m n x less lt)))
        hx hy

    go : (m : ℕ) × (m < length ps) × (get_or ps m p ≡ p) → (n : ℕ) × (n < length ps) × (get_or ps n q ≡ q) → p ≡ q
    go (m, lm, e) (n, ln, f) = at (by_order m n) where
      at : (m < n) ⊎ ((m ≡ n) ⊎ (n < m)) → p ≡ q
      at (inl less) = absurd (after p q m n less ln e f h k)
      at (inr (inl same)) = sym e ∙ get_or_default ps m p q lm ∙ ap (λ (x : ℕ). get_or ps x q) same ∙ f
      at (inr (inr less)) = absurd (after q p n m less lm f e k h)

  pub version_found : (p : Stretch) → In p ps → has (stretch_span p) t ≡ true → version_in ps t ≡ Some p.top.version
  version_found p i h = by (find (λ (q : Stretch). has (stretch_span q) t) ps) refl where
    by : (o : Option Stretch) → find (λ (q : Stretch). has (stretch_span q) t) ps ≡ o → option_map (λ (q : Stretch). q.top.version) o ≡ Some p.top.version
    by None e = absurd (false≢true (sym (find_none (λ (q : Stretch). has (stretch_span q) t) ps e p i) ∙ h))
    by (Some q) e = let w = find_some (λ (q : Stretch). has (stretch_span q) t) ps q e in ap (λ (x : Stretch). Some x.top.version) (one_has q p w.0 i w.1 h)

pub version_none : (ps : List Stretch) (t : ℤ) → ((p : Stretch) → In p ps → has (stretch_span p) t ≡ false) → version_in ps t ≡ None
version_none ps t none = by (find (λ (q : Stretch). has (stretch_span q) t) ps) refl where
  by : (o : Option Stretch) → find (λ (q : Stretch). has (stretch_span q) t) ps ≡ o → option_map (λ (q : Stretch). q.top.version) o ≡ None
  by None e = refl
  by (Some q) e = let w = find_some (λ (q : Stretch). has (stretch_span q) t) ps q e in absurd (false≢true (sym (none q w.0) ∙ w.1))

-- ---- the first stretch that ends later

off_after : (s e t : ℤ) → int_le e t ≡ true → (int_le s t && int_lt t e) ≡ false
off_after s e t h = grind (arith, ints)

off_before : (s e t : ℤ) → int_lt t s ≡ true → (int_le s t && int_lt t e) ≡ false
off_before s e t h = grind (arith, ints)

off_behind : (s e a t : ℤ) → int_le a t ≡ false → int_le a s ≡ true → (int_le s t && int_lt t e) ≡ false
off_behind s e a t h k = grind (arith, ints)

on_next : (s e t : ℤ) → int_le e t ≡ false → int_lt t s ≡ false → (int_le s t && int_lt t e) ≡ true
on_next s e t h k = grind (arith, ints)

module _ (ps : List Stretch) (up : AreAscending ps) (t : ℤ) (k : ℕ) (split : IsPartitionPoint (λ p. is_past t p ≡ true) (λ p. is_past t p ≡ false) ps k) where
  -- those before the place end too early
  early_off : (p : Stretch) (j : ℕ) → j < length ps → get_or ps j p ≡ p → j < k → has (stretch_span p) t ≡ false
  early_off p j lt e less = off_after p.start p.end t (subst (λ (x : Stretch). int_le x.end t ≡ true) e (split.0 j p (omega arith) less))

  pub none_later : length ps ≤ k → version_in ps t ≡ None
  none_later le = version_none ps t off where
    off : (p : Stretch) → In p ps → has (stretch_span p) t ≡ false
    off p i = let w = In_at ps p i in early_off p w.0 w.1 w.2 (omega (arith, w.1, le))

  module _ (p : Stretch) (there : slice_get ps k ≡ Some p) where
    at : (k < length ps) × (p ≡ get_or ps k p)
    at = got ps k p there

    later : int_le p.end t ≡ false
    later = subst (λ (x : Stretch). int_le x.end t ≡ false) (sym at.1) (split.1 k p (omega arith) at.0)

    pub starts_later : int_lt t p.start ≡ true → version_in ps t ≡ None
    starts_later h = version_none ps t off where
      off_at : (q : Stretch) (j : ℕ) → j < length ps → get_or ps j q ≡ q → (j < k) ⊎ ((j ≡ k) ⊎ (k < j)) → has (stretch_span q) t ≡ false
      off_at q j lt e (inl less) = early_off q j lt e less
      off_at q j lt e (inr (inl same)) =
          let is : p ≡ q = at.1 ∙ get_or_default ps k p q at.0 ∙ ap (λ (n : ℕ). get_or ps n q) (sym same) ∙ e in
          off_before q.start q.end t (subst (λ (x : Stretch). int_lt t x.start ≡ true) is h)
      off_at q j lt e (inr (inr more)) =
          let apart : int_le p.end q.start ≡ true = subst (λ (x : Stretch). int_le x.end q.start ≡ true) (sym at.1)
          (subst (λ (x : Stretch). int_le (get_or ps k p).end x.start ≡ true) (get_or_default ps j p q lt ∙ e) (up.apart k j p more lt)) in
          off_behind q.start q.end p.end t later apart

      off : (q : Stretch) → In q ps → has (stretch_span q) t ≡ false
      off q i = let w = In_at ps q i in off_at q w.0 w.1 w.2 (by_order w.0 k)

    pub has_started : int_lt t p.start ≡ false → version_in ps t ≡ Some p.top.version
    has_started h = version_found ps up t p (got_In ps k p there) (on_next p.start p.end t later h)

-- ---- the cover on top

pub look_on_top : (cs : List Cover) (ps : List Stretch) → AreStretches cs ps → (t : ℤ) → look_in ps t ≡ look_on cs t
look_on_top cs ps st t = ap (look_of t) (by (find (λ (q : Stretch). has (stretch_span q) t) ps) refl) where
  none_on : ((p : Stretch) → In p ps → has (stretch_span p) t ≡ false) → (o : Option Cover) → top_of cs t ≡ o → None ≡ option_map (λ (c : Cover). c.version) o
  none_on off None e = refl
  none_on off (Some c) e = let w = st.covers t c e in absurd (false≢true (sym (off w.0 w.1) ∙ w.2))

  by : (o : Option Stretch) → find (λ (q : Stretch). has (stretch_span q) t) ps ≡ o → option_map (λ (q : Stretch). q.top.version) o ≡ option_map (λ (c : Cover). c.version) (top_of cs t)
  by None e = none_on (find_none (λ (q : Stretch). has (stretch_span q) t) ps e) (top_of cs t) refl
  by (Some p) e = let w = find_some (λ (q : Stretch). has (stretch_span q) t) ps p e in ap (option_map (λ (c : Cover). c.version)) (sym (st.right p t w.0 w.1))

pub alike_gathered : {X Y : Type 0} (f g : X → List Y) (xs : List X) → ((x : X) → In x xs → f x ≡ g x) → gathered f xs ≡ gathered g xs
alike_gathered f g [] same = refl
alike_gathered f g (x ∷ xs) same = rw (same x (inl refl), alike_gathered f g xs (λ y i. same y (inr i))) refl

-- ---- rows over a span

module _ (rows : List SegmentRow) (source : List ℕ) (span : Extent) where
  abbrev over : List SegmentRow
  over = filter (is_used_over source span) rows

  over_cover : (r : SegmentRow) → In r rows → is_used_over source span r ≡ true → In (cover_of r) (covers_of over)
  over_cover r i on = map_In cover_of r over (filter_In (is_used_over source span) r rows i on)

  row_of : (c : Cover) → In c (covers_of over) → (r : SegmentRow) × In r rows × (is_used_over source span r ≡ true) × (cover_of r ≡ c)
  row_of c i =
      let w = In-map cover_of c over i in
      let f = In-filter (is_used_over source span) w.0 rows w.1 in
      (w.0, f.0, f.1, sym w.2)

  module _ (t : ℤ) (within : has span t ≡ true) where
    over_at : (r : SegmentRow) → is_used_at source t r ≡ true → (is_used_over source span r ≡ true) × (has r.id.span t ≡ true)
    over_at r used =
        let both = and_parts (r.used && bytes_eq r.id.source source) (has r.id.span t) used in
        (and_from (r.used && bytes_eq r.id.source source) (overlap r.id.span span) both.0 (meets r.id.span span t both.1 within), both.1)

    used_at : (r : SegmentRow) → is_used_over source span r ≡ true → has r.id.span t ≡ true → is_used_at source t r ≡ true
    used_at r on here = and_from (r.used && bytes_eq r.id.source source) (has r.id.span t) (and_parts (r.used && bytes_eq r.id.source source) (overlap r.id.span span) on).0 here

    -- a row of the cover on top is visible
    top_visible : (c : Cover) → Means (covers_of over) t (Some c) → (r : SegmentRow) × In r rows × (is_visible rows source t r ≡ true) × (r.id.version ≡ c.version)
    top_visible c m =
        let q = row_of c m.0 in
        let used : is_used_at source t q.0 ≡ true = used_at q.0 q.2 (subst (λ (x : Cover). has x.span t ≡ true) (sym q.3) m.1) in
        (q.0, q.1, and_from (is_used_at source t q.0) (tops rows source t q.0) used (tops_from source t rows q.0 (λ n j on. low q.0 q.3 n j (over_at n on))), ap (λ (x : Cover). x.version) q.3) where
          low : (q : SegmentRow) → cover_of q ≡ c → (n : SegmentRow) → In n rows → (is_used_over source span n ≡ true) × (has n.id.span t ≡ true) → int_le n.id.version q.id.version ≡ true
          low q is n j on = subst (λ (x : Cover). int_le n.id.version x.version ≡ true) (sym is) (version_below c (cover_of n) (m.2 (cover_of n) (over_cover n j on.0) on.1))

    pub on_top_is_visible : look_on (covers_of over) t ≡ look_at rows source t
    on_top_is_visible = ap (look_of t) (by (top_of (covers_of over) t) (top_means (covers_of over) t) (find (is_visible rows source t) rows) refl) where
      by : (o : Option Cover) → Means (covers_of over) t o → (f : Option SegmentRow) → find (is_visible rows source t) rows ≡ f
          → option_map (λ (c : Cover). c.version) o ≡ option_map (λ (chunk : Extent × ℤ). chunk.1) (option_map (λ (r : SegmentRow). (r.id.span, r.id.version)) f)
      by None none None e = refl
      by None none (Some r) e =
          let w = find_some (is_visible rows source t) rows r e in
          let there = over_at r (and_parts (is_used_at source t r) (tops rows source t r) w.1).0 in
          absurd (false≢true (sym (none (cover_of r) (over_cover r w.0 there.0)) ∙ there.1))
      by (Some c) m None e = let v = top_visible c m in absurd (false≢true (sym (find_none (is_visible rows source t) rows e v.0 v.1) ∙ v.2))
      by (Some c) m (Some r) e =
          let w = find_some (is_visible rows source t) rows r e in
          let v = top_visible c m in
          ap Some (sym v.3 ∙ one_version rows source t r v.0 w.0 v.1 w.1 v.2)

pub looks_are_alike : (rows : List SegmentRow) (source : List ℕ) (span : Extent) (ts : List ℤ) → ((t : ℤ) → In t ts → has span t ≡ true)
    → gathered (look_on (covers_of (filter (is_used_over source span) rows))) ts ≡ gathered (look_at rows source) ts
looks_are_alike rows source span ts lie = alike_gathered (look_on (covers_of (filter (is_used_over source span) rows))) (look_at rows source) ts (λ t i. on_top_is_visible rows source span t (lie t i))
