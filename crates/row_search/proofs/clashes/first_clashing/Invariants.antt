use Rattle.std.proofs.Common.{length}
use Rattle.std.specs.List.{list_any}
use Rattle.row_search.proofs.Walking.{IsWalked}
use Rattle.row_search.proofs.clashes.first_clashing.Given as goal

abbrev pub invariant-loop-row : goal.invariant-loop-row
invariant-loop-row g l = IsWalked (g.K.Seeking.holds l.fn.clash) l.fn.before l.fn.rows l.left (λ x. list_any (g.K.Seeking.holds l.fn.clash x) l.later) l.least

abbrev pub decreases-loop-row : goal.decreases-loop-row
decreases-loop-row g l = length l.left
