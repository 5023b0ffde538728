use Rattle.laws_revocation.proofs.GivenOnce.{given_pendings_stay}
use Rattle.laws_revocation.proofs.ids.given_pendings_stay.Goals as goal

pub returns : goal.returns
returns c = given_pendings_stay
