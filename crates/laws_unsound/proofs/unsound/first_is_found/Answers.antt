use Rattle.laws_unsound.proofs.Whole.{first_is_found}
use Rattle.laws_unsound.proofs.unsound.first_is_found.Goals as goal

pub returns : goal.returns
returns c = first_is_found
