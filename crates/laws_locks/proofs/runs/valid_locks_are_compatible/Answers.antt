use Rattle.laws_locks.proofs.Reaching.{valid_locks_are_compatible}
use Rattle.laws_locks.proofs.runs.valid_locks_are_compatible.Goals as goal

pub returns : goal.returns
returns c = valid_locks_are_compatible
