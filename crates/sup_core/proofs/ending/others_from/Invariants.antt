use Rattle.std.proofs.Common.{◌≡◌, map, take}
use Rattle.sup_core.specs.Endings.{others_from}
use Rattle.sup_core.proofs.ending.others_from.Given as goal

abbrev pub invariant-loop-sequence : goal.invariant-loop-sequence
invariant-loop-sequence l = l.tasks.items ≡ others_from l.from l.task (map (λ u. u.now) (take l.sequence-index l.open))
