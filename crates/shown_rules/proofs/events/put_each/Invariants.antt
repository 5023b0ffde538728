use Rattle.std.proofs.Common.{map, take, ◌++◌, ◌≡◌}
use Rattle.shown_rules.specs.Founds.{found_of}
use Rattle.shown_rules.proofs.events.put_each.Given as goal

-- the root is put at the instants so far
abbrev pub invariant-loop-cut : goal.invariant-loop-cut
invariant-loop-cut l = map found_of l.found.items ≡ map found_of l.fn.found.items ++ map (λ c. (c, l.root)) (map (λ c. c.now) (take l.cut-index l.cuts))
