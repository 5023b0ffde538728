use Rattle.cases_locks.proofs.MeaningCaseLaws.{texts_are_met}
use Rattle.cases_locks.proofs.chunks.texts_are_met.Goals as goal

pub returns : goal.returns
returns c = texts_are_met
