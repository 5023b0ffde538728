use Rattle.laws_chunks.proofs.OpenPlacesFound.{bucket_place}
use Rattle.laws_chunks.proofs.places.bucket_is_open.Goals as goal

pub returns : goal.returns
returns c = bucket_place
