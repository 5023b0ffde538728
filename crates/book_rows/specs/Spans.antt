-- Spans of instants, and lists of them. `Extent` is a span; `overlap`, `covers` and `has` are of iv_span.
use Rattle.std.specs.Prelude.{◌&&◌, ◌||◌, ◌∷◌, Bool, List, None, Option, Some, [], cond, false, int_le, int_lt, not, true, ℤ}
use Rattle.std.specs.List.{list_any}
use Rattle.std.specs.Ordering.{int_eq}
use Rattle.iv_span.specs.Extent.{Extent, covers, overlap}
use Rattle.iv_time.specs.Range.{is_instant}
use Rattle.seg_names.specs.Ids.{same_extent}

-- the order of spans: by start and then end
abbrev pub span_at_most : Extent → Extent → Bool
span_at_most a b = int_lt a.start b.start || (int_eq a.start b.start && int_le a.end b.end)

abbrev pub overlaps_one : List Extent → Extent → Bool
overlaps_one ss a = list_any (λ s. overlap s a) ss

abbrev pub is_span_of : List Extent → Extent → Bool
is_span_of ss a = list_any (λ s. same_extent s a) ss

-- it overlaps the span and doesn't lie within it
abbrev pub straddles : Extent → Extent → Bool
straddles s a = overlap s a && not (covers s a)

-- the first span that overlaps an earlier one
abbrev pub first_overlap_after : List Extent → List Extent → Option Extent
first_overlap_after before [] = None
first_overlap_after before (s ∷ ss) = cond (overlaps_one before s) (Some s) (first_overlap_after (s ∷ before) ss)

abbrev pub first_overlap : List Extent → Option Extent
first_overlap ss = first_overlap_after [] ss

abbrev pub same_spans : List Extent → List Extent → Bool
same_spans [] [] = true
same_spans (a ∷ as') (b ∷ bs) = same_extent a b && same_spans as' bs
same_spans _ _ = false

-- the span has an instant, and its ends are instants
abbrev pub is_span : Extent → Bool
is_span s = is_instant s.start && is_instant s.end && int_lt s.start s.end

-- the instant put in its place in an ascending list, where it isn't there yet
abbrev pub put_cut : ℤ → List ℤ → List ℤ
put_cut t [] = t ∷ []
put_cut t (u ∷ us) = cond (int_lt t u) (t ∷ u ∷ us) (cond (int_eq t u) (u ∷ us) (u ∷ put_cut t us))

-- the ends of the spans, ascending, each once
abbrev pub cuts : List Extent → List ℤ
cuts [] = []
cuts (s ∷ ss) = put_cut s.start (put_cut s.end (cuts ss))

-- the pieces between neighbouring cuts
abbrev pub pieces : List ℤ → List Extent
pieces [] = []
pieces (t ∷ []) = []
pieces (t ∷ u ∷ us) = record { start = t; end = u } ∷ pieces (u ∷ us)
