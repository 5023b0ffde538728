use Rattle.std.proofs.Common.{arith}
use Rattle.tab_pending.proofs.RangePlaces.{count_carried}
use Rattle.tab_pending.proofs.ranges.carry_count.Goals as goal

pub returns : goal.returns
returns c = omega (arith, count_carried c.args.span c.args.locks.now)
