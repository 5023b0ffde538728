use Rattle.cases_limits.proofs.WorkedKeys.{second_is_distinct}
use Rattle.cases_limits.proofs.keys.second_is_distinct.Goals as goal

pub returns : goal.returns
returns c = second_is_distinct
