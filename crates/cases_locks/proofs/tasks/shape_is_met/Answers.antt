use Rattle.cases_locks.proofs.TaskCaseLaws.{shape_is_met}
use Rattle.cases_locks.proofs.tasks.shape_is_met.Goals as goal

pub returns : goal.returns
returns c = shape_is_met
