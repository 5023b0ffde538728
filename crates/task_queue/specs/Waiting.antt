-- The tasks that wait.
use Rattle.std.specs.Prelude.{List, filter, map, ℕ}
use Rattle.book_rows.specs.TaskSteps.{is_waiting}
use Rattle.book_rows.specs.declared.rows.TaskRow.{TaskRow}

-- the ids of the tasks that wait, in row order
abbrev pub waiting_ids : List TaskRow → List (List ℕ)
waiting_ids ts = map (λ t. t.task) (filter is_waiting ts)
