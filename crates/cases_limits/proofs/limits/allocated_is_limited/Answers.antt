use Rattle.cases_limits.proofs.WorkedLimits.{allocated_is_limited}
use Rattle.cases_limits.proofs.limits.allocated_is_limited.Goals as goal

pub returns : goal.returns
returns c = allocated_is_limited
