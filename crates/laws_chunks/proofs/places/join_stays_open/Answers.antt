use Rattle.laws_chunks.proofs.OpenPlacesFound.{join_open}
use Rattle.laws_chunks.proofs.places.join_stays_open.Goals as goal

pub returns : goal.returns
returns c = join_open
