use Rattle.std.proofs.Common.{map, take, ℕ, ◌≡◌}
use Rattle.book_rows.specs.Lists.{stands_in}
use Rattle.publish_core.proofs.ways.locks_of.Given as goal

-- the locks of the targets so far
abbrev pub invariant-loop-target : goal.invariant-loop-target
invariant-loop-target l = (n : ℕ) → stands_in l.locks.items n ≡ stands_in (map (λ x. x.lock) (take l.target-index l.targets)) n
