use Rattle.laws_locks.proofs.Granting.{lock_keeps_locks}
use Rattle.laws_locks.proofs.commands.lock_keeps_locks.Goals as goal

pub returns : goal.returns
returns c = lock_keeps_locks
