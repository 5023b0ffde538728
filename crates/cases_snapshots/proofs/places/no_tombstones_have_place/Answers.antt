use Rattle.cases_snapshots.proofs.WorkedBytes.{no_tombstones_have_place}
use Rattle.cases_snapshots.proofs.places.no_tombstones_have_place.Goals as goal

pub returns : goal.returns
returns c = no_tombstones_have_place
