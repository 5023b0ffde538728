use Rattle.cases_limits.proofs.WorkedKeys.{ids_are_distinct}
use Rattle.cases_limits.proofs.keys.ids_are_distinct.Goals as goal

pub returns : goal.returns
returns c = ids_are_distinct
