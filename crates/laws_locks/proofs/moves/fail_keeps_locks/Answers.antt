use Rattle.laws_locks.proofs.Ending.{fail_keeps_locks}
use Rattle.laws_locks.proofs.moves.fail_keeps_locks.Goals as goal

pub returns : goal.returns
returns c = fail_keeps_locks
