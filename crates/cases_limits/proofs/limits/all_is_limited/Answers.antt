use Rattle.cases_limits.proofs.WorkedLimits.{all_is_limited}
use Rattle.cases_limits.proofs.limits.all_is_limited.Goals as goal

pub returns : goal.returns
returns c = all_is_limited
