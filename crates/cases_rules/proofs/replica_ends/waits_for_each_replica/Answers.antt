use Rattle.std.proofs.Common.{refl}
use Rattle.std.specs.Fmt.{digits}
use Rattle.cases_rules.proofs.replica_ends.waits_for_each_replica.Goals as goal

pub returns : goal.returns
unfolding digits
returns c = refl
