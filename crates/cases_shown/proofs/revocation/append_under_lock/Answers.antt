use Rattle.cases_shown.proofs.WorkedRevocation.{append_under_lock}
use Rattle.cases_shown.proofs.revocation.append_under_lock.Goals as goal

pub returns : goal.returns
returns c = append_under_lock
