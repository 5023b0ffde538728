use Rattle.std.proofs.Common.{map, take, ◌≡◌}
use Rattle.book_rows.specs.ShowSteps.{task_line}
use Rattle.overlord_core.proofs.rows_shown.task_lines.Given as goal

abbrev pub invariant-loop-place : goal.invariant-loop-place
invariant-loop-place l = l.lines.items ≡ map task_line (take l.place l.tasks)
