use Rattle.laws_locks.proofs.Ending.{end_keeps_locks}
use Rattle.laws_locks.proofs.commands.end_keeps_locks.Goals as goal

pub returns : goal.returns
returns c = end_keeps_locks
