-- Which instants have to be looked at: between neighbouring ends of spans nothing changes.
use Rattle.std.specs.Prelude.{◌≡◌, Bool, List, false, filter, int_le, true, ℤ}
use Rattle.std.specs.Bool.{Decides}
use Rattle.std.specs.List.{list_all, list_any}
use Rattle.iv_span.specs.Extent.{Extent, has}
use Rattle.book_rows.specs.Lists.{In}
use Rattle.book_rows.specs.Spans.{cuts, put_cut}

-- the same of these spans have both instants
abbrev pub AreAlike : List Extent → ℤ → ℤ → Type 0
AreAlike spans t u = (s : Extent) → In s spans → has s t ≡ has s u

-- a test of instants of the span that depends only on which of these spans have them
abbrev pub DependsWithin : Extent → List Extent → (ℤ → Bool) → Type 0
DependsWithin span spans test = (t u : ℤ) → has span t ≡ true → has span u ≡ true → AreAlike spans t u → test t ≡ test u

-- the span's start, and the ends of these spans that lie within it
abbrev pub ends_within : Extent → List Extent → List ℤ
ends_within span spans = filter (has span) (put_cut span.start (cuts spans))

-- the test holds at each instant of the span
abbrev pub HoldsThroughout : Extent → (ℤ → Bool) → Type 0
HoldsThroughout span test = (t : ℤ) → has span t ≡ true → test t ≡ true

-- the test holds at some instant of the span
abbrev pub HoldsSomewhere : Extent → (ℤ → Bool) → Type 0
HoldsSomewhere span test = (t : ℤ) × (has span t ≡ true) × (test t ≡ true)

-- the start and the ends decide both
pub record IsDecidedByEnds (span : Extent) (spans : List Extent) (test : ℤ → Bool) : Type 0 where
  pub throughout : Decides (list_all test (ends_within span spans)) (HoldsThroughout span test)
  pub somewhere : Decides (list_any test (ends_within span spans)) (HoldsSomewhere span test)

abbrev pub EndsDecide : Type 0
EndsDecide = (span : Extent) (spans : List Extent) (test : ℤ → Bool) → DependsWithin span spans test → IsDecidedByEnds span spans test

-- ---- all instants

-- a test of any instant that depends only on which of these spans have it
abbrev pub DependsOn : List Extent → (ℤ → Bool) → Type 0
DependsOn spans test = (t u : ℤ) → AreAlike spans t u → test t ≡ test u

-- each of the spans begins after the instant
abbrev pub IsBeforeAll : ℤ → List Extent → Type 0
IsBeforeAll t spans = (s : Extent) → In s spans → int_le s.start t ≡ false

-- the ends decide, with one instant before all the spans
abbrev pub EndsDecideAll : Type 0
EndsDecideAll = (spans : List Extent) (test : ℤ → Bool) (before : ℤ) → DependsOn spans test → IsBeforeAll before spans → test before ≡ true → Decides (list_all test (cuts spans)) ((t : ℤ) → test t ≡ true)
