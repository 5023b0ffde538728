-- What depends on an instant by the spans that have it alone: what is visible, and what the publications put and take away.
use Rattle.std.proofs.Common.{Bool, List, [], ap, filter, inl, inr, int_le, map, nat_lt, not, refl, true, ℕ, ℤ, ◌&&◌, ◌+◌, ◌||◌, ◌∷◌, ◌≡◌}
use Rattle.std.proofs.lemmas.Bool.{cases_Bool}
use Rattle.std.specs.List.{list_all, list_any}
use Rattle.std.specs.Prelude.{bytes_eq}
use Rattle.iv_span.specs.Extent.{has}
use Rattle.seg_names.specs.declared.seg_id.SegId.{SegId}
use Rattle.book_rows.specs.Contents.{alive_from, takes, takes_by}
use Rattle.book_rows.specs.Lists.{In, gathered}
use Rattle.book_rows.specs.Publications.{spans_of}
use Rattle.book_rows.specs.Shown.{row_spans, used_rows}
use Rattle.book_rows.specs.Visible.{is_used_at, is_visible, shown, stands_for, visible}
use Rattle.book_rows.specs.declared.kinds.PubKind.{PubKind}
use Rattle.book_rows.specs.declared.rows.Publication.{Publication}
use Rattle.book_rows.specs.declared.rows.SegmentRow.{SegmentRow}
use Rattle.book_rows.specs.declared.rows.SpanSince.{SpanSince}
use Rattle.laws_chunks.proofs.Members.{In-left, In-right, count_alike, filter_In, map_In}
use Rattle.laws_shown.specs.Ends.{AreAlike}
use Rattle.book_rows.specs.declared.kinds.PubKind.TheVariants as PubKinds

-- ---- lists

module _ {X : Type 0} where
  pub all_alike : (p q : X → Bool) (xs : List X) → ((x : X) → In x xs → p x ≡ q x) → list_all p xs ≡ list_all q xs
  all_alike p q [] h = refl
  all_alike p q (x ∷ xs) h = rw (h x (inl refl), all_alike p q xs (λ y i. h y (inr i))) refl

  pub any_alike : (p q : X → Bool) (xs : List X) → ((x : X) → In x xs → p x ≡ q x) → list_any p xs ≡ list_any q xs
  any_alike p q [] h = refl
  any_alike p q (x ∷ xs) h = rw (h x (inl refl), any_alike p q xs (λ y i. h y (inr i))) refl

  pub filter_alike : (p q : X → Bool) (xs : List X) → ((x : X) → In x xs → p x ≡ q x) → filter p xs ≡ filter q xs
  filter_alike p q [] h = refl
  filter_alike p q (x ∷ xs) h = rw (h x (inl refl), filter_alike p q xs (λ y i. h y (inr i))) refl

  pub In-gathered : {Y : Type 0} (f : X → List Y) (xs : List X) (x : X) (y : Y) → In x xs → In y (f x) → In y (gathered f xs)
  In-gathered f [] x y i j = absurd i
  In-gathered f (z ∷ xs) x y (inl e) j = In-left y (f z) (gathered f xs) (rw e at j)
  In-gathered f (z ∷ xs) x y (inr i) j = In-right y (f z) (gathered f xs) (In-gathered f xs x y i j)

-- ---- what is visible

-- the same of these rows are used at both instants
abbrev pub AreUsedAlike : List ℕ → List SegmentRow → ℤ → ℤ → Type 0
AreUsedAlike source rows t u = (r : SegmentRow) → In r rows → is_used_at source t r ≡ is_used_at source u r

pub used_alike : (source : List ℕ) (rows : List SegmentRow) (t u : ℤ) → AreAlike (map (λ r. r.id.span) rows) t u → AreUsedAlike source rows t u
used_alike source rows t u alike r i = ap (λ (b : Bool). (r.used && bytes_eq r.id.source source) && b) (alike r.id.span (map_In (λ (r : SegmentRow). r.id.span) r rows i))

module _ (rows : List SegmentRow) (source : List ℕ) (t u : ℤ) (alike : AreUsedAlike source rows t u) where
  pub visible_alike : (r : SegmentRow) → In r rows → is_visible rows source t r ≡ is_visible rows source u r
  visible_alike r i = rw (
    alike r i,
    all_alike (λ q. not (is_used_at source t q) || int_le q.id.version r.id.version) (λ q. not (is_used_at source u q) || int_le q.id.version r.id.version) rows
        (λ q j. ap (λ (b : Bool). not b || int_le q.id.version r.id.version) (alike q j)),
  ) refl

  pub all_visible_alike : visible rows source t ≡ visible rows source u
  all_visible_alike = filter_alike (is_visible rows source t) (is_visible rows source u) rows visible_alike

  pub shown_alike : (root : SegId) → has root.span t ≡ has root.span u → shown rows source t root ≡ shown rows source u root
  shown_alike root same = count_alike (λ r. is_visible rows source t r && stands_for root t r) (λ r. is_visible rows source u r && stands_for root u r) rows
      (λ r i. rw (visible_alike r i, same) refl)

-- ---- rows of one source: those used there and their spans

module _ (rows : List SegmentRow) (source : List ℕ) (t u : ℤ) (alike : AreAlike (row_spans (used_rows rows source)) t u) where
  used_row : (r : SegmentRow) → In r rows → (r.used && bytes_eq r.id.source source) ≡ true → In r (used_rows rows source)
  used_row r i on = filter_In (λ r. r.used && bytes_eq r.id.source source) r rows i on

  pub id_span_alike : (r : SegmentRow) → In r rows → (r.used && bytes_eq r.id.source source) ≡ true → has r.id.span t ≡ has r.id.span u
  id_span_alike r i on = alike r.id.span (In-gathered (λ (r : SegmentRow). r.id.span ∷ r.root.span ∷ []) (used_rows rows source) r r.id.span (used_row r i on) (inl refl))

  pub root_span_alike : (r : SegmentRow) → In r rows → (r.used && bytes_eq r.id.source source) ≡ true → has r.root.span t ≡ has r.root.span u
  root_span_alike r i on = alike r.root.span (In-gathered (λ (r : SegmentRow). r.id.span ∷ r.root.span ∷ []) (used_rows rows source) r r.root.span (used_row r i on) (inr (inl refl)))

  pub source_alike : AreUsedAlike source rows t u
  source_alike r i = elim (cases_Bool (r.used && bytes_eq r.id.source source)) [
    | inl on ↦ ap (λ (b : Bool). (r.used && bytes_eq r.id.source source) && b) (id_span_alike r i on)
    | inr off ↦ rw off refl
  ]

-- ---- what the publications say

takes_by_alike : (kind : PubKind) (spans : List SpanSince) (t u : ℤ) (k : ℕ) → AreAlike (map (λ s. s.span) spans) t u → takes_by kind spans t k ≡ takes_by kind spans u k
takes_by_alike PubKinds.Append spans t u k alike = refl
takes_by_alike PubKinds.Over spans t u k alike = any_alike (λ s. has s.span t) (λ s. has s.span u) spans (λ s i. alike s.span (map_In (λ (s : SpanSince). s.span) s spans i))
takes_by_alike PubKinds.Replace spans t u k alike = any_alike (λ s. has s.span t && nat_lt k s.since) (λ s. has s.span u && nat_lt k s.since) spans
    (λ s i. ap (λ (b : Bool). b && nat_lt k s.since) (alike s.span (map_In (λ (s : SpanSince). s.span) s spans i)))
takes_by_alike PubKinds.Drop spans t u k alike = any_alike (λ s. has s.span t) (λ s. has s.span u) spans (λ s i. alike s.span (map_In (λ (s : SpanSince). s.span) s spans i))
takes_by_alike PubKinds.Reset spans t u k alike = refl

pub takes_alike : (source : List ℕ) (t u : ℤ) (m : Publication) (k : ℕ) → AreAlike (spans_of m) t u → takes source t m k ≡ takes source u m k
takes_alike source t u m k alike = ap (λ (b : Bool). bytes_eq m.source source && b) (takes_by_alike m.kind m.spans t u k alike)

pub alive_same : (pass : ℕ → Bool) (source : List ℕ) (t u : ℤ) (root : SegId) → has root.span t ≡ has root.span u
    → (k : ℕ) (ms : List Publication) → AreAlike (gathered spans_of ms) t u → alive_from k pass ms source t root ≡ alive_from k pass ms source u root
alive_same pass source t u root same k [] alike = refl
alive_same pass source t u root same k (m ∷ ms) alike = rw (
  any_alike (λ n. takes source t n k) (λ n. takes source u n k) ms (λ n i. takes_alike source t u n k (λ s j. alike s (In-right s (spans_of m) (gathered spans_of ms) (In-gathered spans_of ms n s i j)))),
  same,
  alive_same pass source t u root same (k + 1) ms (λ s i. alike s (In-right s (spans_of m) (gathered spans_of ms) i)),
) refl
