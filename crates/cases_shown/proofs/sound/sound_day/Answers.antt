use Rattle.cases_shown.proofs.WorkedSound.{sound_day}
use Rattle.cases_shown.proofs.sound.sound_day.Goals as goal

pub returns : goal.returns
returns c = sound_day
