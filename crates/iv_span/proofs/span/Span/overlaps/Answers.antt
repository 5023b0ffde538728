use Rattle.std.proofs.Common.{rules}
use Rattle.iv_span.proofs.Sets.{shared_at}
use Rattle.iv_span.proofs.span.Span.overlaps.Goals as goal

pub returns-then-self-other-clause-shared : goal.returns-then-self-other-clause-shared
returns-then-self-other-clause-shared c = rw (← c.self.view_is, ← c.other.view_is) (shared_at _ _ _ (search rules) c.self.invariant c.other.invariant)
