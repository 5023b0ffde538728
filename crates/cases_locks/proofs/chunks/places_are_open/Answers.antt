use Rattle.cases_locks.proofs.PlaceCaseLaws.{places_are_open}
use Rattle.cases_locks.proofs.chunks.places_are_open.Goals as goal

pub returns : goal.returns
returns c = places_are_open
