use Rattle.cases_shown.proofs.WorkedIds.{lost_id_is_put_by_none}
use Rattle.cases_shown.proofs.revocation.lost_id_is_put_by_none.Goals as goal

pub returns : goal.returns
returns c = lost_id_is_put_by_none
