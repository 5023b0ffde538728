use Rattle.cases_locks.proofs.TaskCaseLaws.{an_id_is_allocated}
use Rattle.cases_locks.proofs.tasks.an_id_is_allocated.Goals as goal

pub returns : goal.returns
returns c = an_id_is_allocated
