use Rattle.std.proofs.Common.{◌≡◌, drop, map}
use Rattle.sup_core.specs.Ticking.{late_index}
use Rattle.sup_core.proofs.telling.late_index.Given as goal

-- what is found among those that are left is what is found among all
abbrev pub invariant-loop-sequence : goal.invariant-loop-sequence
invariant-loop-sequence l = late_index l.supervisor.timeout l.moment (map (λ u. u.now) (drop l.sequence-index l.open)) ≡ late_index l.supervisor.timeout l.moment (map (λ u. u.now) l.open)
