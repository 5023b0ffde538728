use Rattle.std.proofs.Common.{◌++◌, ◌≡◌, take}
use Rattle.sup_core.proofs.telling.push_live.Given as goal

abbrev pub invariant-loop-task : goal.invariant-loop-task
invariant-loop-task l = l.tasks ≡ l.fn.tasks ++ take l.task-index l.live
