use Rattle.cases_snapshots.proofs.WorkedBytes.{span_has_place}
use Rattle.cases_snapshots.proofs.places.span_has_place.Goals as goal

pub returns : goal.returns
returns c = span_has_place
