use Rattle.laws_shown.proofs.GoingOn.{publications_go_on}
use Rattle.laws_shown.proofs.growth.publications_go_on.Goals as goal

pub returns : goal.returns
returns c = publications_go_on
