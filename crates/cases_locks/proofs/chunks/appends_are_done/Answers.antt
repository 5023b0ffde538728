use Rattle.cases_locks.proofs.PublishCaseLaws.{appends_are_done}
use Rattle.cases_locks.proofs.chunks.appends_are_done.Goals as goal

pub returns : goal.returns
returns c = appends_are_done
