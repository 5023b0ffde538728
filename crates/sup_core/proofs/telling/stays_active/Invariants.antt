use Rattle.std.proofs.Common.{◌≡◌, drop, map}
use Rattle.sup_core.specs.Ticking.{stays_active}
use Rattle.sup_core.proofs.telling.stays_active.Given as goal

abbrev pub invariant-loop-sequence : goal.invariant-loop-sequence
invariant-loop-sequence l = stays_active l.late (map (λ u. u.now) (drop l.sequence-index l.open)) ≡ stays_active l.late (map (λ u. u.now) l.open)
