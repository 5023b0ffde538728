use Rattle.laws_sequences.proofs.PlacesStay.{publications_stay}
use Rattle.laws_sequences.proofs.publishes.publications_stay.Goals as goal

pub returns : goal.returns
returns c = publications_stay
