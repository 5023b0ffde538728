use Rattle.laws_revocation.proofs.LaterLocks.{revoked_for_good}
use Rattle.laws_revocation.proofs.numbers.revoked_for_good.Goals as goal

pub returns : goal.returns
returns c = revoked_for_good
