use Rattle.cases_shown.proofs.WorkedIds.{given_id_is_inserted_by_none}
use Rattle.cases_shown.proofs.revocation.given_id_is_inserted_by_none.Goals as goal

pub returns : goal.returns
returns c = given_id_is_inserted_by_none
