use Rattle.laws_shown.proofs.GoingOn.{publications_stay}
use Rattle.laws_shown.proofs.growth.publications_stay.Goals as goal

pub returns : goal.returns
returns c = publications_stay
