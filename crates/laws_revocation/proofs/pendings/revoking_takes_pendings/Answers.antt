use Rattle.laws_revocation.proofs.PendingLocks.{revoking_takes_pendings}
use Rattle.laws_revocation.proofs.pendings.revoking_takes_pendings.Goals as goal

pub returns : goal.returns
returns c = revoking_takes_pendings
