use Rattle.std.proofs.Common.{refl}
use Rattle.std.specs.Fmt.{digits}
use Rattle.cases_rules.proofs.reports.state_before_offsets.Goals as goal

pub returns : goal.returns
unfolding digits
returns c = refl
