use Rattle.cases_snapshots.proofs.WorkedBytes.{text_has_place}
use Rattle.cases_snapshots.proofs.places.text_has_place.Goals as goal

pub returns : goal.returns
returns c = text_has_place
