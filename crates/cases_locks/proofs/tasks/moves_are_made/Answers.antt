use Rattle.cases_locks.proofs.TaskCaseLaws.{moves_are_made}
use Rattle.cases_locks.proofs.tasks.moves_are_made.Goals as goal

pub returns : goal.returns
returns c = moves_are_made
