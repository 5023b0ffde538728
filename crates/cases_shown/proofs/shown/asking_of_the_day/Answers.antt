use Rattle.cases_shown.proofs.WorkedShown.{asking_of_the_day}
use Rattle.cases_shown.proofs.shown.asking_of_the_day.Goals as goal

pub returns : goal.returns
returns c = asking_of_the_day
