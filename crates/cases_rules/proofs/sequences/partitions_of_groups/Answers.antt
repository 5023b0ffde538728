use Rattle.std.proofs.Common.{refl}
use Rattle.std.specs.Fmt.{digits}
use Rattle.cases_rules.proofs.sequences.partitions_of_groups.Goals as goal

pub returns : goal.returns
unfolding digits
returns c = refl
