use Rattle.std.proofs.Common.{◌≡◌}
use Rattle.book_rows.specs.TaskSteps.{all_failed}
use Rattle.book_core.proofs.tables.Core.all_failed.Given as goal

-- the tasks so far have failed
abbrev pub invariant-loop-task : goal.invariant-loop-task
invariant-loop-task l = l.self ≡ all_failed l.yielded l.initial.self
