use Rattle.cases_shown.proofs.WorkedShown.{hour_in_the_day}
use Rattle.cases_shown.proofs.shown.hour_in_the_day.Goals as goal

pub returns : goal.returns
returns c = hour_in_the_day
