use Rattle.laws_unsound.proofs.Least.{first_failing_is_least}
use Rattle.laws_unsound.proofs.naming.first_failing_is_least.Goals as goal

pub returns : goal.returns
returns g c = first_failing_is_least
