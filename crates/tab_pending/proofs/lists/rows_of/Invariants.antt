use Rattle.std.proofs.Common.{◌≡◌, map, take}
use Rattle.tab_pending.proofs.lists.rows_of.Given as goal

abbrev pub invariant-loop-pending : goal.invariant-loop-pending
invariant-loop-pending l = l.rows.items ≡ map (λ r. r.now) (take l.pending-index l.found)
