use Rattle.std.proofs.Common.{◌≡◌}
use Rattle.lock_posse.proofs.updates.locks_of.Given as goal

abbrev pub invariant-loop-row : goal.invariant-loop-row
invariant-loop-row l = l.locks.items ≡ l.yielded
