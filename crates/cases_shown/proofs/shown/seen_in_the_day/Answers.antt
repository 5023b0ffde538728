use Rattle.cases_shown.proofs.WorkedShown.{seen_in_the_day}
use Rattle.cases_shown.proofs.shown.seen_in_the_day.Goals as goal

pub returns : goal.returns
returns c = seen_in_the_day
