use Rattle.std.proofs.Common.{refl}
use Rattle.std.specs.Fmt.{digits}
use Rattle.cases_rules.proofs.supervisors.reports_pause_and_close.Goals as goal

pub returns : goal.returns
unfolding digits
returns c = refl
