use Rattle.cases_locks.proofs.PublishCaseLaws.{inserts_are_done}
use Rattle.cases_locks.proofs.chunks.inserts_are_done.Goals as goal

pub returns : goal.returns
returns c = inserts_are_done
