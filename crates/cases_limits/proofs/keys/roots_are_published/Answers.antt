use Rattle.cases_limits.proofs.WorkedKeys.{roots_are_published}
use Rattle.cases_limits.proofs.keys.roots_are_published.Goals as goal

pub returns : goal.returns
returns c = roots_are_published
