use Rattle.laws_locks.proofs.Reaching.{others_keep_locks}
use Rattle.laws_locks.proofs.commands.others_keep_locks.Goals as goal

pub returns : goal.returns
returns c = others_keep_locks
