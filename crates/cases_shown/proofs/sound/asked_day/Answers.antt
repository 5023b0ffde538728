use Rattle.cases_shown.proofs.WorkedSound.{asked_day}
use Rattle.cases_shown.proofs.sound.asked_day.Goals as goal

pub returns : goal.returns
returns c = asked_day
