-- Lists of spans that stand for the same instants.
use Rattle.std.specs.Prelude.{◌≡◌, ℕ, ◌≤◌, ◌<◌, ℤ, ◌≤ℤ◌, ◌<ℤ◌, Bool, List, [], ◌∷◌, length, slice_index_or}
use Rattle.std.specs.List.{list_any}
use Rattle.iv_span.specs.Extent.{Extent, has}

-- the instant is one of some span of the list
abbrev pub has_any : List Extent → ℤ → Bool
has_any spans t = list_any (λ s. has s t) spans

-- the first span of the list, if there is one, starts after that end, and doesn't touch it
abbrev pub StartsAfter : ℤ → List Extent → Type 0
StartsAfter end [] = Unit {0}
StartsAfter end (s ∷ rest) = end <ℤ s.start

-- the spans ascend, and between two neighbours is an instant of neither
abbrev pub AreApart : List Extent → Type 0
AreApart [] = Unit {0}
AreApart (s ∷ rest) = (s.start <ℤ s.end) × StartsAfter s.end rest × AreApart rest

-- the pieces have the same instants as the spans, and are as few and as long as can be
pub record IsCondensed (spans pieces : List Extent) : Type 0 where
  pub same : (t : ℤ) → has_any pieces t ≡ has_any spans t
  pub apart : AreApart pieces

-- no span starts before one that stands before it
pub record StartsRise (xs : List Extent) : Type 0 where
  pub rise : (i j : ℕ) (d : Extent) → i ≤ j → j < length xs → (slice_index_or xs i d).start ≤ℤ (slice_index_or xs j d).start
