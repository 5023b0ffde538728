use Rattle.std.proofs.Common.{arith}
use Rattle.tab_pending.proofs.RangePlaces.{count_over}
use Rattle.tab_pending.proofs.ranges.range_count.Goals as goal

pub returns : goal.returns
returns c = omega (arith, count_over c.args.digest c.args.spans.now)
