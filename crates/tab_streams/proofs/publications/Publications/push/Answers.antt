use Rattle.std.proofs.Common.{arith}
use Rattle.tab_streams.proofs.Repeats.{push_keeps}
use Rattle.tab_streams.proofs.publications.Publications.push.Goals as goal

pub invariant_of-self : goal.invariant_of-self
invariant_of-self c = push_keeps c.push.result 0 _ _ _ c.push.ensures.ok c.push.ensures.err c.self.invariant (omega arith)
