use Rattle.cases_limits.proofs.WorkedKeys.{supervisors_are_distinct}
use Rattle.cases_limits.proofs.keys.supervisors_are_distinct.Goals as goal

pub returns : goal.returns
returns c = supervisors_are_distinct
