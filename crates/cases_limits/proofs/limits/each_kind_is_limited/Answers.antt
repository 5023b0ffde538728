use Rattle.cases_limits.proofs.WorkedLimits.{each_kind_is_limited}
use Rattle.cases_limits.proofs.limits.each_kind_is_limited.Goals as goal

pub returns : goal.returns
returns c = each_kind_is_limited
