use Rattle.cases_shown.proofs.WorkedShown.{all_instants}
use Rattle.cases_shown.proofs.shown.all_instants.Goals as goal

pub returns : goal.returns
returns c = all_instants
