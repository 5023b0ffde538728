use Rattle.cases_shown.proofs.WorkedSound.{printed_day}
use Rattle.cases_shown.proofs.sound.printed_day.Goals as goal

pub returns : goal.returns
returns c = printed_day
