-- The list of places by which the tasks that wait are found.
use Rattle.std.specs.Prelude.{◌++◌, ◌<◌, ◌≡◌, Bool, List, None, Option, Some, [], ◌∷◌, false, filter, length, slice_get, ℕ}
use Rattle.std.specs.List.{AllByRecursion}
use Rattle.book_rows.specs.TaskSteps.{is_waiting}
use Rattle.book_rows.specs.declared.rows.TaskRow.{TaskRow}

abbrev pub rows_in : Option TaskRow → List TaskRow
rows_in None = []
rows_in (Some t) = t ∷ []

-- the row, where there is one and its task waits
abbrev pub if_waiting : Option TaskRow → List TaskRow
if_waiting None = []
if_waiting (Some t) = filter is_waiting (t ∷ [])

-- the rows at these places whose tasks wait
abbrev pub waiting_at : List TaskRow → List ℕ → List TaskRow
waiting_at ts [] = []
waiting_at ts (p ∷ ps) = if_waiting (slice_get ts p) ++ waiting_at ts ps

abbrev pub is_waiting_row : Option TaskRow → Bool
is_waiting_row None = false
is_waiting_row (Some t) = is_waiting t

abbrev pub waits_at : List TaskRow → ℕ → Bool
waits_at ts p = is_waiting_row (slice_get ts p)

-- each place has a row, and the places lead to all that wait, in row order; but not so once a task was set back to waiting
pub record AreListed (ts : List TaskRow) (places : List ℕ) (is_back : Bool) : Type 0 where
  pub within : AllByRecursion (λ p. p < length ts) places
  pub found : is_back ≡ false → waiting_at ts places ≡ filter is_waiting ts
