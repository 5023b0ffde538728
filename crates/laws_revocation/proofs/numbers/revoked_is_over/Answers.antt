use Rattle.laws_revocation.proofs.LaterLocks.{revoked_is_over}
use Rattle.laws_revocation.proofs.numbers.revoked_is_over.Goals as goal

pub returns : goal.returns
returns c = revoked_is_over
