use Rattle.laws_shown.proofs.EndsDeciding.{ends_decide_all}
use Rattle.laws_shown.proofs.ends.ends_decide_all.Goals as goal

pub returns : goal.returns
returns c = ends_decide_all
