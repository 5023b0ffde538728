use Rattle.laws_chunks.proofs.OpenPlacesFound.{revoke_open}
use Rattle.laws_chunks.proofs.places.revoke_stays_open.Goals as goal

pub returns : goal.returns
returns c = revoke_open
