use Rattle.cases_limits.proofs.WorkedKeys.{requests_are_distinct}
use Rattle.cases_limits.proofs.keys.requests_are_distinct.Goals as goal

pub returns : goal.returns
returns c = requests_are_distinct
