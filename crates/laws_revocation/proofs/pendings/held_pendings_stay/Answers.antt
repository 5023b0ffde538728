use Rattle.laws_revocation.proofs.PendingLocks.{held_pendings_stay}
use Rattle.laws_revocation.proofs.pendings.held_pendings_stay.Goals as goal

pub returns : goal.returns
returns c = held_pendings_stay
