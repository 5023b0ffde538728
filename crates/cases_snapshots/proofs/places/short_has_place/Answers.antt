use Rattle.cases_snapshots.proofs.WorkedBytes.{short_has_place}
use Rattle.cases_snapshots.proofs.places.short_has_place.Goals as goal

pub returns : goal.returns
returns c = short_has_place
