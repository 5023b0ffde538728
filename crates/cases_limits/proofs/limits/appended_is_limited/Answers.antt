use Rattle.cases_limits.proofs.WorkedLimits.{appended_is_limited}
use Rattle.cases_limits.proofs.limits.appended_is_limited.Goals as goal

pub returns : goal.returns
returns c = appended_is_limited
