use Rattle.cases_locks.proofs.PublishCaseLaws.{replaces_are_done}
use Rattle.cases_locks.proofs.chunks.replaces_are_done.Goals as goal

pub returns : goal.returns
returns c = replaces_are_done
