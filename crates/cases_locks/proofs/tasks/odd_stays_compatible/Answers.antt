use Rattle.cases_locks.proofs.TaskCaseLaws.{odd_stays_compatible}
use Rattle.cases_locks.proofs.tasks.odd_stays_compatible.Goals as goal

pub returns : goal.returns
returns c = odd_stays_compatible
