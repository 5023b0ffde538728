use Rattle.std.proofs.Common.{◌≡◌, map, take}
use Rattle.lock_posse.proofs.leaving.numbers_of.Given as goal

abbrev pub invariant-loop-lock : goal.invariant-loop-lock
invariant-loop-lock l = l.numbers.items ≡ map (λ p. p.number) (map (λ r. r.now) (take l.lock-index l.found))
