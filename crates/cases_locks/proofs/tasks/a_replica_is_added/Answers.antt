use Rattle.cases_locks.proofs.TaskCaseLaws.{a_replica_is_added}
use Rattle.cases_locks.proofs.tasks.a_replica_is_added.Goals as goal

pub returns : goal.returns
returns c = a_replica_is_added
