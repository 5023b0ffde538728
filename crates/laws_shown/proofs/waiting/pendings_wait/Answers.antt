use Rattle.laws_shown.proofs.StayingPendings.{pendings_wait}
use Rattle.laws_shown.proofs.waiting.pendings_wait.Goals as goal

pub returns : goal.returns
returns c = pendings_wait
