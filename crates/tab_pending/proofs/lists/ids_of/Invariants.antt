use Rattle.std.proofs.Common.{◌≡◌, map, take}
use Rattle.tab_pending.proofs.lists.ids_of.Given as goal

abbrev pub invariant-loop-pending : goal.invariant-loop-pending
invariant-loop-pending l = l.ids.items ≡ map (λ p. p.id) (map (λ r. r.now) (take l.pending-index l.found))
