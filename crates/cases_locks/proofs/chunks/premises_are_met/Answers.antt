use Rattle.cases_locks.proofs.DayLaws.{premises_are_met}
use Rattle.cases_locks.proofs.chunks.premises_are_met.Goals as goal

pub returns : goal.returns
returns c = premises_are_met
