use Rattle.cases_shown.proofs.WorkedAllocated.{lost_day}
use Rattle.cases_shown.proofs.allocated.lost_day.Goals as goal

pub returns : goal.returns
returns c = lost_day
