use Rattle.laws_revocation.proofs.GivenOnce.{reached_has_given_pendings}
use Rattle.laws_revocation.proofs.ids.reached_has_given_pendings.Goals as goal

pub returns : goal.returns
returns c = reached_has_given_pendings
