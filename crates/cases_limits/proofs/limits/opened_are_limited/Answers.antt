use Rattle.cases_limits.proofs.WorkedLimits.{opened_are_limited}
use Rattle.cases_limits.proofs.limits.opened_are_limited.Goals as goal

pub returns : goal.returns
returns c = opened_are_limited
