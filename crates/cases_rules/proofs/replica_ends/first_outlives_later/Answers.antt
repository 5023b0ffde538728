use Rattle.std.proofs.Common.{refl}
use Rattle.std.specs.Fmt.{digits}
use Rattle.cases_rules.proofs.replica_ends.first_outlives_later.Goals as goal

pub returns : goal.returns
unfolding digits
returns c = refl
