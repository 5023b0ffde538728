use Rattle.std.proofs.Common.{refl}
use Rattle.std.specs.Fmt.{digits}
use Rattle.cases_rules.proofs.reports.ends_where_it_starts.Goals as goal

pub returns : goal.returns
unfolding digits
returns c = refl
