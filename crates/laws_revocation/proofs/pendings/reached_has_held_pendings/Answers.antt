use Rattle.laws_revocation.proofs.PendingLocks.{reached_has_held_pendings}
use Rattle.laws_revocation.proofs.pendings.reached_has_held_pendings.Goals as goal

pub returns : goal.returns
returns c = reached_has_held_pendings
