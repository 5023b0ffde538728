use Rattle.laws_limits.proofs.Limits.{limits_stay}
use Rattle.laws_limits.proofs.laws.limits_stay.Goals as goal

pub returns : goal.returns
returns c = limits_stay
