use Rattle.std.proofs.Common.{refl}
use Rattle.std.specs.Fmt.{digits}
use Rattle.cases_rules.proofs.sequences.goes_on_from_last_closed.Goals as goal

pub returns : goal.returns
unfolding digits
returns c = refl
