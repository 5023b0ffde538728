use Rattle.std.proofs.Common.{refl}
use Rattle.std.specs.Fmt.{digits}
use Rattle.cases_rules.proofs.replica_ends.reset_keeps_published.Goals as goal

pub returns : goal.returns
unfolding digits
returns c = refl
