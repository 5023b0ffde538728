use Rattle.cases_locks.proofs.TaskCaseLaws.{a_late_replica_fails}
use Rattle.cases_locks.proofs.tasks.a_late_replica_fails.Goals as goal

pub returns : goal.returns
returns c = a_late_replica_fails
