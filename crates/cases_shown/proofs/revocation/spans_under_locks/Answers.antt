use Rattle.cases_shown.proofs.WorkedRevocation.{spans_under_locks}
use Rattle.cases_shown.proofs.revocation.spans_under_locks.Goals as goal

pub returns : goal.returns
returns c = spans_under_locks
