use Rattle.std.proofs.Common.{refl}
use Rattle.std.specs.Fmt.{digits}
use Rattle.cases_rules.proofs.sequences.later_closed_goes_too.Goals as goal

pub returns : goal.returns
unfolding digits
returns c = refl
