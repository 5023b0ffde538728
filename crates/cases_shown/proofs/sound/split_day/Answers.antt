use Rattle.cases_shown.proofs.WorkedSound.{split_day}
use Rattle.cases_shown.proofs.sound.split_day.Goals as goal

pub returns : goal.returns
returns c = split_day
