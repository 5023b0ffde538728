use Rattle.cases_shown.proofs.WorkedShown.{new_pending_of_the_hour}
use Rattle.cases_shown.proofs.shown.new_pending_of_the_hour.Goals as goal

pub returns : goal.returns
returns c = new_pending_of_the_hour
