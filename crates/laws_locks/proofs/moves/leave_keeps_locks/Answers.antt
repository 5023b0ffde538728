use Rattle.laws_locks.proofs.Ending.{leave_keeps_locks}
use Rattle.laws_locks.proofs.moves.leave_keeps_locks.Goals as goal

pub returns : goal.returns
returns c = leave_keeps_locks
