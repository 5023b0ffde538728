use Rattle.cases_locks.proofs.TaskCaseLaws.{both_are_compatible}
use Rattle.cases_locks.proofs.tasks.both_are_compatible.Goals as goal

pub returns : goal.returns
returns c = both_are_compatible
