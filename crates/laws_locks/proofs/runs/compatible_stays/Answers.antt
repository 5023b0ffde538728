use Rattle.laws_locks.proofs.EachCommand.{compatible_stays}
use Rattle.laws_locks.proofs.runs.compatible_stays.Goals as goal

pub returns : goal.returns
returns c = compatible_stays
