use Rattle.std.proofs.Common.{◌-◌}
use Rattle.sup_core.proofs.sizes.+size_between.Given as goal

abbrev pub decreases-size_between : goal.decreases-size_between
decreases-size_between l = l.high - l.low
