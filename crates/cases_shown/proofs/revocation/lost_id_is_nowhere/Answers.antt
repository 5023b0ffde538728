use Rattle.cases_shown.proofs.WorkedIds.{lost_id_is_nowhere}
use Rattle.cases_shown.proofs.revocation.lost_id_is_nowhere.Goals as goal

pub returns : goal.returns
returns c = lost_id_is_nowhere
