use Rattle.cases_limits.proofs.WorkedKeys.{upgrades_are_distinct}
use Rattle.cases_limits.proofs.keys.upgrades_are_distinct.Goals as goal

pub returns : goal.returns
returns c = upgrades_are_distinct
