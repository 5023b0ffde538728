use Rattle.std.proofs.Common.{refl}
use Rattle.std.specs.Fmt.{digits}
use Rattle.cases_rules.proofs.sequences.starts_where_published.Goals as goal

pub returns : goal.returns
unfolding digits
returns c = refl
