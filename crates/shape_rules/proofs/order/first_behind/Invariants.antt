use Rattle.std.proofs.Common.{length}
use Rattle.std.specs.Option.{option_copied}
use Rattle.shape_rules.specs.Orders.{is_behind}
use Rattle.row_search.proofs.Walking.{IsWalked}
use Rattle.shape_rules.proofs.order.first_behind.Given as goal

abbrev pub invariant-loop-row : goal.invariant-loop-row
invariant-loop-row g l = IsWalked g.A.Ascent.behind l.fn.before l.fn.rows l.left (λ x. is_behind g.A.Ascent.behind x (option_copied l.least)) l.found

abbrev pub decreases-loop-row : goal.decreases-loop-row
decreases-loop-row g l = length l.left
