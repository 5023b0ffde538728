use Rattle.std.proofs.Common.{◌≡◌, ◌++◌, ◌==◌, map, filter, take}
use Rattle.lock_posse.proofs.grants.join_times.Given as goal

abbrev pub invariant-loop-listed : goal.invariant-loop-listed
invariant-loop-listed l = l.members ≡ l.initial.members ++ map (λ n. l.task) (filter (λ n. n == l.number) (take l.listed-index l.numbers))
