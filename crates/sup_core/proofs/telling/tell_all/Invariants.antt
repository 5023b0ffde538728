use Rattle.std.proofs.Common.{◌≡◌, map, take}
use Rattle.sup_core.specs.Ticking.{told_all}
use Rattle.sup_core.proofs.telling.tell_all.Given as goal

abbrev pub invariant-loop-sequence : goal.invariant-loop-sequence
invariant-loop-sequence l = l.told ≡ told_all l.late l.supervisor.duration l.moment l.fn.told (map (λ u. u.now) (take l.sequence-index l.open))
