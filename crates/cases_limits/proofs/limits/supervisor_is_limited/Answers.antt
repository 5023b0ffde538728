use Rattle.cases_limits.proofs.WorkedLimits.{supervisor_is_limited}
use Rattle.cases_limits.proofs.limits.supervisor_is_limited.Goals as goal

pub returns : goal.returns
returns c = supervisor_is_limited
