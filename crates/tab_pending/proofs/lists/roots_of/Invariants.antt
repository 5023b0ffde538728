use Rattle.std.proofs.Common.{◌≡◌, map, take}
use Rattle.tab_pending.proofs.lists.roots_of.Given as goal

abbrev pub invariant-loop-upgrade : goal.invariant-loop-upgrade
invariant-loop-upgrade l = l.roots.items ≡ map (λ u. u.root) (map (λ r. r.now) (take l.upgrade-index l.found))
