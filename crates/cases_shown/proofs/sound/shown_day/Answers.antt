use Rattle.cases_shown.proofs.WorkedSound.{shown_day}
use Rattle.cases_shown.proofs.sound.shown_day.Goals as goal

pub returns : goal.returns
returns c = shown_day
