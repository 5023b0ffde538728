use Rattle.cases_shown.proofs.WorkedSound.{pending_waits}
use Rattle.cases_shown.proofs.sound.pending_waits.Goals as goal

pub returns : goal.returns
returns c = pending_waits
