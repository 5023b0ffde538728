use Rattle.laws_locks.proofs.Managing.{manage_keeps_locks}
use Rattle.laws_locks.proofs.commands.manage_keeps_locks.Goals as goal

pub returns : goal.returns
returns c = manage_keeps_locks
