use Rattle.cases_snapshots.proofs.WorkedBytes.{long_has_place}
use Rattle.cases_snapshots.proofs.places.long_has_place.Goals as goal

pub returns : goal.returns
returns c = long_has_place
