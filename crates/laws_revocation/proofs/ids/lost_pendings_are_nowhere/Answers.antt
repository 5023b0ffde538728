use Rattle.laws_revocation.proofs.LostIds.{lost_pendings_are_nowhere}
use Rattle.laws_revocation.proofs.ids.lost_pendings_are_nowhere.Goals as goal

pub returns : goal.returns
returns c = lost_pendings_are_nowhere
