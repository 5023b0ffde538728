use Rattle.laws_revocation.proofs.PendingLocks.{no_pending_comes}
use Rattle.laws_revocation.proofs.pendings.no_pending_comes.Goals as goal

pub returns : goal.returns
returns c = no_pending_comes
