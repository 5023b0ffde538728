use Rattle.cases_locks.proofs.MeaningCaseLaws.{roots_are_shown}
use Rattle.cases_locks.proofs.chunks.roots_are_shown.Goals as goal

pub returns : goal.returns
returns c = roots_are_shown
