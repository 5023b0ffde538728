use Rattle.laws_chunks.proofs.OpenPlacesFound.{pending_place}
use Rattle.laws_chunks.proofs.places.pending_place_is_open.Goals as goal

pub returns : goal.returns
returns c = pending_place
