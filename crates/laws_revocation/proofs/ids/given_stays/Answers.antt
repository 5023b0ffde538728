use Rattle.laws_revocation.proofs.GivenOnce.{given_stays}
use Rattle.laws_revocation.proofs.ids.given_stays.Goals as goal

pub returns : goal.returns
returns c = given_stays
