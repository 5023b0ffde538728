use Rattle.laws_chunks.proofs.OpenPlacesFound.{row_place}
use Rattle.laws_chunks.proofs.places.row_place_is_open.Goals as goal

pub returns : goal.returns
returns c = row_place
