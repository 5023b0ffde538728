use Rattle.std.proofs.Common.{◌≡◌}
use Rattle.book_rows.specs.Ticks.{replicas_of}
use Rattle.sup_core.proofs.opening.replicas_of.Given as goal

abbrev pub invariant-loop-number : goal.invariant-loop-number
invariant-loop-number l = l.live ≡ replicas_of l.name l.number
