-- The target that an id can have the span and the version of, by its place.
use Rattle.std.proofs.Common.{List, false, map, true, ℕ, ◌&&◌, ◌≡◌}
use Rattle.std.specs.Prelude.{int_lt, slice_get}
use Rattle.std.specs.List.Sorted.{IsPartitionPoint}
use Rattle.std.specs.Ordering.{int_eq}
use Rattle.std.proofs.Common.{get_or}
use Rattle.std.proofs.lemmas.Bool.{and_left}
use Rattle.seg_names.specs.Ids.{same_extent}
use Rattle.seg_names.specs.declared.seg_id.SegId.{SegId}
use Rattle.book_rows.specs.Over.{Target, has_own_version}
use Rattle.apart_spans.specs.Apart.{are_apart, passes_at}
use Rattle.apart_spans.proofs.SpanPlaces.{any_at, others_begin}

pub versioned_at : (a : SegId) (xs : List Target) (at : ℕ) → are_apart (map (λ x. x.span) xs) ≡ true
    → IsPartitionPoint (λ x. int_lt x.span.start a.span.start ≡ true) (λ x. int_lt x.span.start a.span.start ≡ false) xs at
    → has_own_version xs a ≡ passes_at (λ x. same_extent x.span a.span && int_eq x.version a.version) (slice_get xs at)
versioned_at a xs at h place =
    any_at (λ (x : Target). same_extent x.span a.span && int_eq x.version a.version) xs at (λ k d within other.
    and_left (same_extent (get_or xs k d).span a.span) (int_eq (get_or xs k d).version a.version)
    (and_left (int_eq (get_or xs k d).span.start a.span.start) (int_eq (get_or xs k d).span.end a.span.end) (others_begin (λ (x : Target). x.span) a.span.start xs at h place k d within other)))
