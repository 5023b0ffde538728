use Rattle.laws_revocation.proofs.LostIds.{lost_ids_are_lost}
use Rattle.laws_revocation.proofs.ids.lost_ids_are_lost.Goals as goal

pub returns : goal.returns
returns c = lost_ids_are_lost
