use Rattle.laws_shown.proofs.EndsDeciding.{ends_decide}
use Rattle.laws_shown.proofs.ends.ends_decide.Goals as goal

pub returns : goal.returns
returns c = ends_decide
