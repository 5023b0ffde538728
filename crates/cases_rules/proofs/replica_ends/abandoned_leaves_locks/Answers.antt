use Rattle.std.proofs.Common.{refl}
use Rattle.std.specs.Fmt.{digits}
use Rattle.cases_rules.proofs.replica_ends.abandoned_leaves_locks.Goals as goal

pub returns : goal.returns
unfolding digits
returns c = (refl, (refl, refl), (refl, refl), (refl, refl))
