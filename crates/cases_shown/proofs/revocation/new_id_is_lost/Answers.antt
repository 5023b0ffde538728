use Rattle.cases_shown.proofs.WorkedRevocation.{new_id_is_lost}
use Rattle.cases_shown.proofs.revocation.new_id_is_lost.Goals as goal

pub returns : goal.returns
returns c = new_id_is_lost
