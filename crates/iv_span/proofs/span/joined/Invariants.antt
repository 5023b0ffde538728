use Rattle.iv_span.proofs.Condensing.{Joining}
use Rattle.iv_span.proofs.span.joined.Given as goal

abbrev pub invariant-loop-next : goal.invariant-loop-next
invariant-loop-next l = Joining l.fn.first l.fn.rest l.pieces.items l.last l.next-index
