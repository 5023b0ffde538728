use Rattle.laws_revocation.proofs.PutIds.{given_ids_are_put_no_more}
use Rattle.laws_revocation.proofs.ids.given_ids_are_put_no_more.Goals as goal

pub returns : goal.returns
returns c = given_ids_are_put_no_more
