use Rattle.laws_unsound.proofs.Whole.{first_unsound_is_first}
use Rattle.laws_unsound.proofs.unsound.first_unsound_is_first.Goals as goal

pub returns : goal.returns
returns c = first_unsound_is_first
