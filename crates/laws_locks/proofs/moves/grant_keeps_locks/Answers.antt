use Rattle.laws_locks.proofs.Granting.{grant_keeps_locks}
use Rattle.laws_locks.proofs.moves.grant_keeps_locks.Goals as goal

pub returns : goal.returns
returns c = grant_keeps_locks
