use Rattle.cases_shown.proofs.WorkedIds.{known_id_is_answered}
use Rattle.cases_shown.proofs.revocation.known_id_is_answered.Goals as goal

pub returns : goal.returns
returns c = known_id_is_answered
