use Rattle.laws_chunks.proofs.OpenPlacesFound.{grant_open}
use Rattle.laws_chunks.proofs.places.grant_stays_open.Goals as goal

pub returns : goal.returns
returns c = grant_open
