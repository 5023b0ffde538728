-- Of spans in order, the first that overlaps an earlier one overlaps the one before it.
use Rattle.std.proofs.Common.{Bool, List, Some, [], ap, arith, cond, false, inl, inr, refl, true, ℤ, ◌&&◌, ◌<ℤ◌, ◌||◌, ◌∙◌, ◌∷◌, ◌≡◌, ◌≤ℤ◌}
use Rattle.std.specs.Prelude.{int_le, int_lt}
use Rattle.std.specs.Ordering.{int_eq}
use Rattle.std.proofs.lemmas.Bool.{and_from, and_parts, and_right, or_cases}
use Rattle.std.proofs.lemmas.Int.{ints}
use Rattle.iv_span.specs.Extent.{Extent, overlap}
use Rattle.book_rows.specs.Lists.{In, list_links}
use Rattle.book_rows.specs.Spans.{first_overlap_after, overlaps_one, span_at_most}
use Rattle.apart_spans.specs.Apart.{are_apart}
use Rattle.apart_spans.proofs.SpanPlaces.{le_true, lt_false, lt_true, true_lt}

-- spans that overlap the same of the later ones have the same first overlap
same_overlaps : (before others ss : List Extent) → ((s : Extent) → In s ss → overlaps_one before s ≡ overlaps_one others s) → first_overlap_after before ss ≡ first_overlap_after others ss
same_overlaps before others [] h = refl
same_overlaps before others (s ∷ ss) h =
    rw (h s (inl refl), same_overlaps (s ∷ before) (s ∷ others) ss (λ t i. ap (λ (b : Bool). overlap s t || b) (h t (inr i)))) refl

equal_le : (a b : ℤ) → int_eq a b ≡ true → a ≤ℤ b
equal_le a b h = grind (arith, ints)

pub starts_rise : (a b : Extent) → span_at_most a b ≡ true → a.start ≤ℤ b.start
starts_rise a b h = elim (or_cases (int_lt a.start b.start) (int_eq a.start b.start && int_le a.end b.end) h) [
  | inl less ↦ (let lt : a.start <ℤ b.start = true_lt a.start b.start less in omega (arith, ints))
  | inr same ↦ equal_le a.start b.start (and_parts (int_eq a.start b.start) (int_le a.end b.end) same).0
]

begins_later : (b : Extent) (ss : List Extent) → list_links span_at_most (b ∷ ss) ≡ true → (s : Extent) → In s ss → b.start ≤ℤ s.start
begins_later b [] h s i = absurd i
begins_later b (t ∷ ss) h s (inl e) = rw e (starts_rise b t (and_parts (span_at_most b t) (list_links span_at_most (t ∷ ss)) h).0)
begins_later b (t ∷ ss) h s (inr i) =
    let both = and_parts (span_at_most b t) (list_links span_at_most (t ∷ ss)) h in
    let near : b.start ≤ℤ t.start = starts_rise b t both.0 in
    let far : t.start ≤ℤ s.start = begins_later t ss both.1 s i in
    omega (arith, ints)

module _ (last b : Extent) (ss : List Extent) (links : list_links span_at_most (last ∷ b ∷ ss) ≡ true) where
  rise : last.start ≤ℤ b.start
  rise = starts_rise last b (and_parts (span_at_most last b) (list_links span_at_most (b ∷ ss)) links).0

  pub links_on : list_links span_at_most (b ∷ ss) ≡ true
  links_on = (and_parts (span_at_most last b) (list_links span_at_most (b ∷ ss)) links).1

  -- it begins before the last one ended
  pub overlaps_here : b.start <ℤ b.end → b.start <ℤ last.end → first_overlap_after (last ∷ []) (b ∷ ss) ≡ Some b
  overlaps_here real near =
      let both : overlap last b ≡ true = and_from (int_lt last.start b.end) (int_lt b.start last.end) (lt_true last.start b.end (let r = rise in omega (arith, ints))) (lt_true b.start last.end near) in
      rw both refl

  -- the last one has ended
  module _ (apart : last.end ≤ℤ b.start) where
    no_overlap : (s : Extent) → b.start ≤ℤ s.start → overlap last s ≡ false
    no_overlap s from = and_right (int_lt last.start s.end) (int_lt s.start last.end) (lt_false s.start last.end (omega (arith, ints)))

    pub overlaps_later : b.start <ℤ b.end → first_overlap_after (last ∷ []) (b ∷ ss) ≡ first_overlap_after (b ∷ []) ss
    overlaps_later real =
        ap (λ (o : Bool). cond (o || false) (Some b) (first_overlap_after (b ∷ last ∷ []) ss)) (no_overlap b (omega (arith, ints)))
        ∙ same_overlaps (b ∷ last ∷ []) (b ∷ []) ss (λ s i. ap (λ (o : Bool). overlap b s || (o || false)) (no_overlap s (begins_later b ss links_on s i)))

    pub apart_on : last.start <ℤ last.end → are_apart (b ∷ ss) ≡ true → are_apart (last ∷ b ∷ ss) ≡ true
    apart_on real rest =
        and_from (int_lt last.start last.end && int_le last.end b.start) (are_apart (b ∷ ss))
        (and_from (int_lt last.start last.end) (int_le last.end b.start) (lt_true last.start last.end real) (le_true last.end b.start apart)) rest
