-- The entries of the map that keeps the rows of the tasks.
use Rattle.std.specs.Prelude.{◌∷◌, ◌≡◌, List, [], bytes_eq, cond, map, ℕ}
use Rattle.std.specs.Map.{keys_of, values_of}
use Rattle.book_rows.specs.Shape.{AreDistinct, same_task}
use Rattle.book_rows.specs.declared.kinds.TaskStatus.{TaskStatus}
use Rattle.book_rows.specs.declared.rows.TaskRow.{TaskRow}

-- each row stands under its own task
abbrev pub HasOwnKeys : List (List ℕ × TaskRow) → Type 0
HasOwnKeys es = keys_of es ≡ map (λ t. t.task) (values_of es)

-- each row stands under its own task, and no two are of one task
pub record IsKept (es : List (List ℕ × TaskRow)) : Type 0 where
  pub own : HasOwnKeys es
  pub distinct : AreDistinct same_task (values_of es)

-- the entries, with another status in the row that stands under the task
abbrev pub set_in : List ℕ → TaskStatus → List (List ℕ × TaskRow) → List (List ℕ × TaskRow)
set_in task status [] = []
set_in task status (e ∷ es) = cond (bytes_eq task e.0) ((e.0, record e.1 { status = status }) ∷ es) (e ∷ set_in task status es)
