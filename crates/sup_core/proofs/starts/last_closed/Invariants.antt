use Rattle.std.proofs.Common.{◌≡◌, map, take}
use Rattle.std.specs.Option.{option_copied}
use Rattle.sup_core.specs.Ticking.{last_closed}
use Rattle.sup_core.proofs.starts.last_closed.Given as goal

abbrev pub invariant-loop-sequence : goal.invariant-loop-sequence
invariant-loop-sequence l = option_copied l.last ≡ last_closed l.late (map (λ u. u.now) (take l.sequence-index l.open))
