-- The granularities of the buckets that are tried, one after another.
use Rattle.std.proofs.Common.{◌∙◌, ◌∷◌, ◌≡◌, List, None, Option, Some, [], ap, refl, ℕ, ℤ}
use Rattle.iv_span.specs.Extent.{Extent}
use Rattle.iv_time.specs.Buckets.{and_finer, bucket_of, finer_of}
use Rattle.iv_time.specs.declared.granularity.Granularity.{Granularity}
use Rattle.iv_time.specs.declared.granularity.Granularity.TheVariants as Granularities
use Rattle.book_rows.specs.Allocation.{free_bucket, free_or}
use Rattle.book_rows.specs.declared.rows.PendingRow.{PendingRow}
use Rattle.book_rows.specs.declared.rows.SegmentRow.{SegmentRow}
use Rattle.seg_alloc.proofs.Placed.{or_found, or_rest}

-- those that are still to be tried
abbrev pub left_to_try : Option Granularity → List Granularity
left_to_try None = []
left_to_try (Some g) = and_finer g

pub one_tried : (g : Granularity) → and_finer g ≡ g ∷ left_to_try (finer_of g)
one_tried Granularities.Minute = refl
one_tried Granularities.FifteenMinute = refl
one_tried Granularities.Hour = refl
one_tried Granularities.Day = refl
one_tried Granularities.Week = refl
one_tried Granularities.Month = refl
one_tried Granularities.Year = refl

-- the next one is tried
module _ (rows : List SegmentRow) (ps : List PendingRow) (source : List ℕ) (at : ℤ) (next : Option Granularity) (asked : Granularity) (is : next ≡ Some asked) where
  tried : free_bucket rows ps source at (left_to_try next) ≡ free_or rows ps source (bucket_of asked at) (free_bucket rows ps source at (left_to_try (finer_of asked)))
  tried = ap (λ (o : Option Granularity). free_bucket rows ps source at (left_to_try o)) is ∙ ap (free_bucket rows ps source at) (one_tried asked)

  pub tried_free : (s : Extent) → Some s ≡ free_or rows ps source (bucket_of asked at) None → free_bucket rows ps source at (left_to_try next) ≡ Some s
  tried_free s free = tried ∙ or_found rows ps source (bucket_of asked at) (free_bucket rows ps source at (left_to_try (finer_of asked))) s free

  pub tried_taken : None ≡ free_or rows ps source (bucket_of asked at) None → free_bucket rows ps source at (left_to_try next) ≡ free_bucket rows ps source at (left_to_try (finer_of asked))
  tried_taken taken = tried ∙ or_rest rows ps source (bucket_of asked at) (free_bucket rows ps source at (left_to_try (finer_of asked))) taken
