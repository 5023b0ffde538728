use Rattle.cases_locks.proofs.LockCaseLaws.{others_are_changed}
use Rattle.cases_locks.proofs.chunks.others_are_changed.Goals as goal

pub returns : goal.returns
returns c = others_are_changed
