use Rattle.cases_locks.proofs.TaskCaseLaws.{two_are_granted}
use Rattle.cases_locks.proofs.tasks.two_are_granted.Goals as goal

pub returns : goal.returns
returns c = two_are_granted
