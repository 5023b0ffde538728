use Rattle.cases_shown.proofs.WorkedRevocation.{pending_comes_and_goes}
use Rattle.cases_shown.proofs.revocation.pending_comes_and_goes.Goals as goal

pub returns : goal.returns
returns c = pending_comes_and_goes
