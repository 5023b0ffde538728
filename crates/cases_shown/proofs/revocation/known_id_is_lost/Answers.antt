use Rattle.cases_shown.proofs.WorkedRevocation.{known_id_is_lost}
use Rattle.cases_shown.proofs.revocation.known_id_is_lost.Goals as goal

pub returns : goal.returns
returns c = known_id_is_lost
