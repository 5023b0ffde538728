-- Spans that stand in order and don't overlap, and a span that has all of a list.
use Rattle.std.specs.Prelude.{◌&&◌, ◌∷◌, ◌≤ℤ◌, Bool, List, None, Option, Some, [], false, int_le, int_lt, true}
use Rattle.std.specs.Int.{int_max, int_min}
use Rattle.std.specs.List.{AllByRecursion}
use Rattle.iv_span.specs.Extent.{Extent}

-- the first isn't empty, and ends before the second begins
abbrev pub is_before : Extent → Extent → Bool
is_before s t = int_lt s.start s.end && int_le s.end t.start

-- none of them is empty, and each ends before the next begins
abbrev pub are_apart : List Extent → Bool
are_apart [] = true
are_apart (s ∷ []) = int_lt s.start s.end
are_apart (s ∷ t ∷ ss) = is_before s t && are_apart (t ∷ ss)

-- there is one, and it passes
abbrev pub passes_at : {X : Type 0} → (X → Bool) → Option X → Bool
passes_at test None = false
passes_at test (Some x) = test x

-- the least span that has all of both
abbrev pub joined : Extent → Extent → Extent
joined a b = record { start = int_min a.start b.start; end = int_max a.end b.end }

-- the span has all of each of these
abbrev pub Bounds : Extent → List Extent → Type 0
Bounds h spans = AllByRecursion (λ s. (h.start ≤ℤ s.start) × (s.end ≤ℤ h.end)) spans
