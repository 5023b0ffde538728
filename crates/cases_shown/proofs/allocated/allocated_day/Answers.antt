use Rattle.cases_shown.proofs.WorkedAllocated.{allocated_day}
use Rattle.cases_shown.proofs.allocated.allocated_day.Goals as goal

pub returns : goal.returns
returns c = allocated_day
