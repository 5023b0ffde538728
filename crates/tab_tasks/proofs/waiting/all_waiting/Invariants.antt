use Rattle.std.proofs.Common.{◌≡◌, filter, map, take}
use Rattle.std.specs.Map.{values_of}
use Rattle.book_rows.specs.TaskSteps.{is_waiting}
use Rattle.tab_tasks.proofs.waiting.all_waiting.Given as goal

-- the rows so far that wait
abbrev pub invariant-loop-place : goal.invariant-loop-place
invariant-loop-place l = map (λ r. r.now) l.found.items ≡ filter is_waiting (take l.place (values_of l.rows.entries))
