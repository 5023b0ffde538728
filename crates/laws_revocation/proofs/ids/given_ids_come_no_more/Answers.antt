use Rattle.laws_revocation.proofs.GivenOnce.{given_ids_come_no_more}
use Rattle.laws_revocation.proofs.ids.given_ids_come_no_more.Goals as goal

pub returns : goal.returns
returns c = given_ids_come_no_more
