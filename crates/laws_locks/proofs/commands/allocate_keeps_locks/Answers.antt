use Rattle.laws_locks.proofs.Allocating.{allocate_keeps_locks}
use Rattle.laws_locks.proofs.commands.allocate_keeps_locks.Goals as goal

pub returns : goal.returns
returns c = allocate_keeps_locks
