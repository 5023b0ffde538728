use Rattle.std.proofs.Common.{◌++◌, ◌≡◌, take}
use Rattle.sup_core.proofs.resets.push_all.Given as goal

abbrev pub invariant-loop-task : goal.invariant-loop-task
invariant-loop-task l = l.tasks.items ≡ l.fn.tasks.items ++ take l.task-index l.live
