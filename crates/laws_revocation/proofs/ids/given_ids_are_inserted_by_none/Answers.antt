use Rattle.laws_revocation.proofs.PutIds.{given_ids_are_inserted_by_none}
use Rattle.laws_revocation.proofs.ids.given_ids_are_inserted_by_none.Goals as goal

pub returns : goal.returns
returns c = given_ids_are_inserted_by_none
