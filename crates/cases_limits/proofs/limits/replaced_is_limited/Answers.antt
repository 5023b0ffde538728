use Rattle.cases_limits.proofs.WorkedLimits.{replaced_is_limited}
use Rattle.cases_limits.proofs.limits.replaced_is_limited.Goals as goal

pub returns : goal.returns
returns c = replaced_is_limited
