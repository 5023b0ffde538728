use Rattle.laws_locks.proofs.Submitting.{submit_keeps_locks}
use Rattle.laws_locks.proofs.commands.submit_keeps_locks.Goals as goal

pub returns : goal.returns
returns c = submit_keeps_locks
