use Rattle.cases_shown.proofs.WorkedLocks.{ids_under_locks}
use Rattle.cases_shown.proofs.revocation.ids_under_locks.Goals as goal

pub returns : goal.returns
returns c = ids_under_locks
