use Rattle.cases_locks.proofs.LockCaseLaws.{locks_are_lost}
use Rattle.cases_locks.proofs.chunks.locks_are_lost.Goals as goal

pub returns : goal.returns
returns c = locks_are_lost
