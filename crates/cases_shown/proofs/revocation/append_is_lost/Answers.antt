use Rattle.cases_shown.proofs.WorkedRevocation.{append_is_lost}
use Rattle.cases_shown.proofs.revocation.append_is_lost.Goals as goal

pub returns : goal.returns
returns c = append_is_lost
