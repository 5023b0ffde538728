-- Which of spans that are apart can be one span.
use Rattle.std.proofs.Common.{List, false, get_or, subst, sym, true, ℕ, ◌≡◌}
use Rattle.std.specs.Prelude.{int_lt, slice_get}
use Rattle.std.specs.List.{list_any}
use Rattle.std.specs.List.Sorted.{IsPartitionPoint}
use Rattle.std.specs.Ordering.{int_eq}
use Rattle.std.proofs.lemmas.Bool.{and_left}
use Rattle.iv_span.specs.Extent.{Extent}
use Rattle.seg_names.specs.Ids.{same_extent}
use Rattle.apart_spans.specs.Apart.{are_apart, passes_at}
use Rattle.apart_spans.proofs.SpanPlaces.{any_at, map_same, others_begin}

-- a span is one of these where it is the one at its place
pub listed_at : (span : Extent) (spans : List Extent) (at : ℕ) → are_apart spans ≡ true → IsPartitionPoint (λ s. int_lt s.start span.start ≡ true) (λ s. int_lt s.start span.start ≡ false) spans at
    → list_any (λ s. same_extent s span) spans ≡ passes_at (λ s. same_extent s span) (slice_get spans at)
listed_at span spans at h place =
    any_at (λ (s : Extent). same_extent s span) spans at (λ k d within other.
    and_left (int_eq (get_or spans k d).start span.start) (int_eq (get_or spans k d).end span.end)
    (others_begin (λ (s : Extent). s) span.start spans at (subst (λ (ss : List Extent). are_apart ss ≡ true) (sym (map_same spans)) h) place k d within other))
