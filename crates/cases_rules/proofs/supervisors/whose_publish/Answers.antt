use Rattle.std.proofs.Common.{refl}
use Rattle.std.specs.Fmt.{digits}
use Rattle.cases_rules.proofs.supervisors.whose_publish.Goals as goal

pub returns : goal.returns
unfolding digits
returns c = refl
