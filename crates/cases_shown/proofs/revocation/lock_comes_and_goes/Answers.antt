use Rattle.cases_shown.proofs.WorkedRevocation.{lock_comes_and_goes}
use Rattle.cases_shown.proofs.revocation.lock_comes_and_goes.Goals as goal

pub returns : goal.returns
returns c = lock_comes_and_goes
