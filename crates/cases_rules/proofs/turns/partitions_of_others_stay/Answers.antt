use Rattle.std.proofs.Common.{refl}
use Rattle.std.specs.Fmt.{digits}
use Rattle.cases_rules.proofs.turns.partitions_of_others_stay.Goals as goal

pub returns : goal.returns
unfolding digits
returns c = refl
