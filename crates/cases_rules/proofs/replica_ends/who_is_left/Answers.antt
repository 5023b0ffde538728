use Rattle.std.proofs.Common.{refl}
use Rattle.std.specs.Fmt.{digits}
use Rattle.cases_rules.proofs.replica_ends.who_is_left.Goals as goal

pub returns : goal.returns
unfolding digits
returns c = (refl, refl, refl)
