use Rattle.laws_revocation.proofs.PendingLocks.{sound_has_held_pendings}
use Rattle.laws_revocation.proofs.pendings.sound_has_held_pendings.Goals as goal

pub returns : goal.returns
returns c = sound_has_held_pendings
