use Rattle.laws_revocation.proofs.GivenOnce.{sound_has_given_pendings}
use Rattle.laws_revocation.proofs.ids.sound_has_given_pendings.Goals as goal

pub returns : goal.returns
returns c = sound_has_given_pendings
