use Rattle.std.proofs.Common.{refl}
use Rattle.std.specs.Fmt.{digits}
use Rattle.cases_rules.proofs.turns.ranges_of_the_sequence.Goals as goal

pub returns : goal.returns
unfolding digits
returns c = refl
