use Rattle.cases_shown.proofs.WorkedRevocation.{insert_is_lost}
use Rattle.cases_shown.proofs.revocation.insert_is_lost.Goals as goal

pub returns : goal.returns
returns c = insert_is_lost
