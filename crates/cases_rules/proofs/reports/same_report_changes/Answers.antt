use Rattle.std.proofs.Common.{refl}
use Rattle.std.specs.Fmt.{digits}
use Rattle.cases_rules.proofs.reports.same_report_changes.Goals as goal

pub returns : goal.returns
unfolding digits
returns c = (refl, refl)
