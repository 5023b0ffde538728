use Rattle.std.proofs.Common.{refl}
use Rattle.std.specs.Fmt.{digits}
use Rattle.cases_rules.proofs.reports.closed_answers_its_ends.Goals as goal

pub returns : goal.returns
unfolding digits
returns c = ((refl, refl, refl), (refl, refl, refl))
