use Rattle.std.proofs.Common.{◌++◌, ◌≡◌, take}
use Rattle.sup_core.specs.Endings.{left_live}
use Rattle.sup_core.proofs.ending.push_others.Given as goal

abbrev pub invariant-loop-other : goal.invariant-loop-other
invariant-loop-other l = l.tasks.items ≡ l.fn.tasks.items ++ left_live l.task (take l.other-index l.live)
