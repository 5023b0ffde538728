-- Which ranges go on from the stored offsets, and what is said of the first that doesn't.
use Rattle.std.specs.Prelude.{◌++◌, ◌<◌, ◌∷◌, ◌≡◌, ◌≢◌, ◌≤◌, ◌⊎◌, List, None, Option, Some, ℕ}
use Rattle.std.specs.List.{AllByRecursion}
use Rattle.book_rows.specs.Offsets.{compare, stored}
use Rattle.book_rows.specs.declared.replies.Refusal.{Refusal}
use Rattle.book_rows.specs.declared.replies.Refusal.TheVariants as Refusals
use Rattle.book_rows.specs.declared.rows.OffsetRow.{OffsetRow}
use Rattle.book_rows.specs.declared.rows.Range.{Range}

-- the range ends at its start or later, and starts at what is stored, if anything is
abbrev pub GoesOn : Option ℕ → Range → Type 0
GoesOn z r = (r.start ≤ r.end) × ((y : ℕ) → z ≡ Some y → r.start ≡ y)

-- each of the ranges does
abbrev pub AllGoOn : List OffsetRow → List ℕ → List ℕ → List Range → Type 0
AllGoOn rows source stream parts = AllByRecursion (λ r. GoesOn (stored rows source stream r.partition) r) parts

-- the refusal is that the range ends before its start, or else that it starts elsewhere than at the offset that is stored, which it tells
abbrev pub IsWhy : Option ℕ → Range → Refusal → Type 0
IsWhy z r why = ((why ≡ Refusals.BadRange r.partition) × (r.end < r.start)) ⊎ ((y : ℕ) × (why ≡ Refusals.OffsetMismatch r.partition y) × (r.start ≤ r.end) × (z ≡ Some y) × (r.start ≢ y))

-- it is of the first range that doesn't go on
pub record IsOfFirst (rows : List OffsetRow) (source stream : List ℕ) (parts : List Range) (why : Refusal) : Type 0 where
  pub before : List Range
  pub range : Range
  pub after : List Range
  pub parts_are : parts ≡ before ++ range ∷ after
  pub go_on : AllGoOn rows source stream before
  pub why_is : IsWhy (stored rows source stream range.partition) range why

abbrev pub FaultIsOfFirst : Type 0
FaultIsOfFirst = (rows : List OffsetRow) (source stream : List ℕ) (parts : List Range) (why : Refusal) → compare rows source stream parts ≡ Some why → IsOfFirst rows source stream parts why

-- no fault is found exactly where all go on
abbrev pub NoFaultWhereAllGoOn : Type 0
NoFaultWhereAllGoOn = (rows : List OffsetRow) (source stream : List ℕ) (parts : List Range)
    → (compare rows source stream parts ≡ None → AllGoOn rows source stream parts) × (AllGoOn rows source stream parts → compare rows source stream parts ≡ None)
