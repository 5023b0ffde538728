use Rattle.cases_limits.proofs.WorkedLimits.{moved_are_limited}
use Rattle.cases_limits.proofs.limits.moved_are_limited.Goals as goal

pub returns : goal.returns
returns c = moved_are_limited
