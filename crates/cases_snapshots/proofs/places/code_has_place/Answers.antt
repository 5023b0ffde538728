use Rattle.cases_snapshots.proofs.WorkedBytes.{code_has_place}
use Rattle.cases_snapshots.proofs.places.code_has_place.Goals as goal

pub returns : goal.returns
returns c = code_has_place
