use Rattle.laws_keys.proofs.Roots.{roots_stay_published}
use Rattle.laws_keys.proofs.keys.roots_stay_published.Goals as goal

pub returns : goal.returns
returns c = roots_stay_published
