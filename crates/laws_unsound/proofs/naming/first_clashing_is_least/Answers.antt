use Rattle.laws_unsound.proofs.Least.{first_clashing_is_least}
use Rattle.laws_unsound.proofs.naming.first_clashing_is_least.Goals as goal

pub returns : goal.returns
returns g c = first_clashing_is_least
