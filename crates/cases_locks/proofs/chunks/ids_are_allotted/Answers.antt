use Rattle.cases_locks.proofs.PlaceCaseLaws.{ids_are_allotted}
use Rattle.cases_locks.proofs.chunks.ids_are_allotted.Goals as goal

pub returns : goal.returns
returns c = ids_are_allotted
