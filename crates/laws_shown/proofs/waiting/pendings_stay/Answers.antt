use Rattle.laws_shown.proofs.StayingPendings.{pendings_stay}
use Rattle.laws_shown.proofs.waiting.pendings_stay.Goals as goal

pub returns : goal.returns
returns c = pendings_stay
