use Rattle.std.proofs.Common.{rules}
use Rattle.iv_span.proofs.Sets.{all_at}
use Rattle.iv_span.proofs.span.Span.contains.Goals as goal

pub returns-then-self-other-clause-all : goal.returns-then-self-other-clause-all
returns-then-self-other-clause-all c = rw (← c.self.view_is, ← c.other.view_is) (all_at _ _ _ (search rules) c.self.invariant c.other.invariant)
