-- Ids that all have a place among the spans: those of each list stand in the order of their spans.
use Rattle.std.proofs.Common.{Bool, List, None, Option, Some, [], arith, bytes_eq, cond, false, find, inl, inr, map, not, refl, subst, sym, true, ℕ, ℤ, ◌<ℤ◌, ◌∙◌, ◌∷◌, ◌≡◌, ◌⊎◌}
use Rattle.std.specs.Prelude.{int_lt}
use Rattle.std.proofs.lemmas.Bool.{and_parts, false≢true, not-false}
use Rattle.std.proofs.lemmas.Slice.Eq.{bytes_eq-Decides}
use Rattle.std.proofs.lemmas.Cmp.{nat_list_cmp_total}
use Rattle.std.proofs.lemmas.Int.{ints}
use Rattle.std.proofs.lemmas.Map.Lookups.{exact_signed}
use Rattle.std.specs.Cmp.Lexicographic.{slice_cmp}
use Rattle.std.specs.Ordering.{int_cmp, nat_cmp, ordering_reverse, ordering_then}
use Rattle.std.specs.declared.cmp.Ordering.{Ordering}
use Rattle.iv_span.specs.Extent.{Extent}
use Rattle.seg_names.specs.Ids.{extent_cmp}
use Rattle.seg_names.specs.declared.seg_id.SegId.{SegId}
use Rattle.book_rows.specs.Ids.{id_before, is_less}
use Rattle.book_rows.specs.Lists.{list_links}
use Rattle.book_rows.specs.Over.{both_in_order, is_placed}
use Rattle.book_rows.specs.Spans.{is_span_of, span_at_most}
use Rattle.publish_core.specs.Both.{earlier}
use Rattle.publish_core.proofs.FirstOfBoth.{find_in_both}
use Rattle.publish_core.proofs.SpanIds.{at_most_from}
use Rattle.std.specs.declared.cmp.Ordering.TheVariants as Orderings

-- ---- the order of ids of one source

less_parts : (o p : Ordering) → is_less (ordering_then o p) ≡ true → (o ≡ Orderings.Less) ⊎ ((o ≡ Orderings.Equal) × (is_less p ≡ true))
less_parts Orderings.Less p h = inl refl
less_parts Orderings.Equal p h = inr (refl, h)
less_parts Orderings.Greater p h = absurd (false≢true h)

less_is : (o : Ordering) → is_less o ≡ true → o ≡ Orderings.Less
less_is Orderings.Less h = refl
less_is Orderings.Equal h = absurd (false≢true h)
less_is Orderings.Greater h = absurd (false≢true h)

turned : (o : Ordering) → o ≡ Orderings.Less → o ≡ ordering_reverse o → ⊥
turned Orderings.Less e f = cc
turned Orderings.Equal e f = cc
turned Orderings.Greater e f = cc

source_itself : (source : List ℕ) → slice_cmp nat_cmp source source ≡ Orderings.Less → ⊥
source_itself source e = turned (slice_cmp nat_cmp source source) e (nat_list_cmp_total.antisymm source source)

less_lt : (a b : ℤ) → int_cmp a b ≡ Orderings.Less → a <ℤ b
less_lt a b h = go (int_lt a b) refl h where
  inner : (e : Bool) → cond e Orderings.Greater Orderings.Equal ≡ Orderings.Less → ⊥
  inner true f = cc
  inner false f = cc

  go : (l : Bool) → int_lt a b ≡ l → cond l Orderings.Less (cond (int_lt b a) Orderings.Greater Orderings.Equal) ≡ Orderings.Less → a <ℤ b
  go true on f = grind (arith, ints)
  go false off f = absurd (inner (int_lt b a) f)

then_equal : (o p : Ordering) → ordering_then o p ≡ Orderings.Equal → (o ≡ Orderings.Equal) × (p ≡ Orderings.Equal)
then_equal Orderings.Less p h = cc
then_equal Orderings.Equal p h = (refl, h)
then_equal Orderings.Greater p h = cc

then_less : (o p : Ordering) → ordering_then o p ≡ Orderings.Less → (o ≡ Orderings.Less) ⊎ ((o ≡ Orderings.Equal) × (p ≡ Orderings.Less))
then_less Orderings.Less p h = inl refl
then_less Orderings.Equal p h = inr (refl, h)
then_less Orderings.Greater p h = cc

extent_less : (a b : Extent) → extent_cmp a b ≡ Orderings.Less → span_at_most a b ≡ true
extent_less a b h = elim (then_less (int_cmp a.start b.start) (int_cmp a.end b.end) h) [
  | inl less ↦ at_most_from a b (inl (less_lt a.start b.start less))
  | inr same ↦
      let starts : a.start ≡ b.start = exact_signed a.start b.start same.0 in
      let ends : a.end <ℤ b.end = less_lt a.end b.end same.1 in
      at_most_from a b (inr (starts, omega (arith, ints)))
]

extent_equal : (a b : Extent) → extent_cmp a b ≡ Orderings.Equal → span_at_most a b ≡ true
extent_equal a b h =
    let both = then_equal (int_cmp a.start b.start) (int_cmp a.end b.end) h in
    let starts : a.start ≡ b.start = exact_signed a.start b.start both.0 in
    let ends : a.end ≡ b.end = exact_signed a.end b.end both.1 in
    at_most_from a b (inr (starts, omega (arith, ints)))

spans_in_turn : (a b : SegId) → a.source ≡ b.source → id_before a b ≡ true → span_at_most a.span b.span ≡ true
spans_in_turn a b same h = elim (less_parts (slice_cmp nat_cmp a.source b.source) (ordering_then (extent_cmp a.span b.span) (ordering_then (int_cmp a.version b.version) (nat_cmp a.part b.part))) h) [
  | inl less ↦ absurd (source_itself a.source (subst (λ (s : List ℕ). slice_cmp nat_cmp a.source s ≡ Orderings.Less) (sym same) less))
  | inr rest ↦
      elim (less_parts (extent_cmp a.span b.span) (ordering_then (int_cmp a.version b.version) (nat_cmp a.part b.part)) rest.1) [
        | inl less ↦ extent_less a.span b.span less
        | inr equal ↦ extent_equal a.span b.span equal.0
      ]
]

-- ---- ids that have a place

none_earlier : (o p : Option SegId) → earlier o p ≡ None → (o ≡ None) × (p ≡ None)
none_earlier None p h = (refl, h)
none_earlier (Some a) None h = cc
none_earlier (Some a) (Some b) h = go (id_before b a) h where
  go : (t : Bool) → ◌≡◌ {A = Option SegId} (cond t (Some b) (Some a)) None → (◌≡◌ {A = Option SegId} (Some a) None) × (◌≡◌ {A = Option SegId} (Some b) None)
  go true e = cc
  go false e = cc

module _ (source : List ℕ) (spans : List Extent) where
  abbrev misplaced : SegId → Bool
  misplaced a = not (is_placed source spans a)

  source_of : (a : SegId) → misplaced a ≡ false → a.source ≡ source
  source_of a h = (bytes_eq-Decides a.source source).0 (and_parts (bytes_eq a.source source) (is_span_of spans a.span) (not-false (is_placed source spans a) h)).0

  none_first : (a : SegId) (as' : List SegId) → find misplaced (a ∷ as') ≡ None → (misplaced a ≡ false) × (find misplaced as' ≡ None)
  none_first a as' h = go (misplaced a) h where
    go : (t : Bool) → cond t (Some a) (find misplaced as') ≡ None → (t ≡ false) × (find misplaced as' ≡ None)
    go true e = cc
    go false e = (refl, e)

  pub spans_ascend : (ids : List SegId) → list_links id_before ids ≡ true → find misplaced ids ≡ None → list_links span_at_most (map (λ a. a.span) ids) ≡ true
  spans_ascend [] links h = refl
  spans_ascend (a ∷ []) links h = refl
  spans_ascend (a ∷ b ∷ ids) links h =
      let both = and_parts (id_before a b) (list_links id_before (b ∷ ids)) links in
      let first = none_first a (b ∷ ids) h in
      let second = none_first b ids first.1 in
      rw (spans_in_turn a b (source_of a first.0 ∙ sym (source_of b second.0)) both.0, spans_ascend (b ∷ ids) both.1 first.1) refl

  pub both_placed : (ids tombs : List SegId) → list_links id_before ids ≡ true → list_links id_before tombs ≡ true → find misplaced (both_in_order ids tombs) ≡ None
      → (find misplaced ids ≡ None) × (find misplaced tombs ≡ None)
  both_placed ids tombs h k none = none_earlier (find misplaced ids) (find misplaced tombs) (sym (find_in_both misplaced ids tombs h k) ∙ none)
