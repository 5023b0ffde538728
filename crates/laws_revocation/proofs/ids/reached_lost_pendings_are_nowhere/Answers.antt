use Rattle.laws_revocation.proofs.LostIds.{reached_lost_pendings_are_nowhere}
use Rattle.laws_revocation.proofs.ids.reached_lost_pendings_are_nowhere.Goals as goal

pub returns : goal.returns
returns c = reached_lost_pendings_are_nowhere
