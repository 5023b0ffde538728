use Rattle.laws_revocation.proofs.PendingLocks.{ending_takes_pendings}
use Rattle.laws_revocation.proofs.pendings.ending_takes_pendings.Goals as goal

pub returns : goal.returns
returns c = ending_takes_pendings
