use Rattle.cases_limits.proofs.WorkedKeys.{commits_are_bounded}
use Rattle.cases_limits.proofs.keys.commits_are_bounded.Goals as goal

pub returns : goal.returns
returns c = commits_are_bounded
