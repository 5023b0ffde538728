use Rattle.laws_locks.proofs.Granting.{unlock_keeps_locks}
use Rattle.laws_locks.proofs.commands.unlock_keeps_locks.Goals as goal

pub returns : goal.returns
returns c = unlock_keeps_locks
