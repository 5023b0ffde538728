use Rattle.cases_locks.proofs.PlaceCaseLaws.{places_stay_open}
use Rattle.cases_locks.proofs.chunks.places_stay_open.Goals as goal

pub returns : goal.returns
returns c = places_stay_open
