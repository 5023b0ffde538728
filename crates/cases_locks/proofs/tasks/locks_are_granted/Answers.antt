use Rattle.cases_locks.proofs.TaskCaseLaws.{locks_are_granted}
use Rattle.cases_locks.proofs.tasks.locks_are_granted.Goals as goal

pub returns : goal.returns
returns c = locks_are_granted
