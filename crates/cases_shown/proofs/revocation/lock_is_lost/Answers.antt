use Rattle.cases_shown.proofs.WorkedRevocation.{lock_is_lost}
use Rattle.cases_shown.proofs.revocation.lock_is_lost.Goals as goal

pub returns : goal.returns
returns c = lock_is_lost
