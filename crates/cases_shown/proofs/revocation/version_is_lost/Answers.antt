use Rattle.cases_shown.proofs.WorkedRevocation.{version_is_lost}
use Rattle.cases_shown.proofs.revocation.version_is_lost.Goals as goal

pub returns : goal.returns
returns c = version_is_lost
