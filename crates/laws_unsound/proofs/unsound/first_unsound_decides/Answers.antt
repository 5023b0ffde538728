use Rattle.laws_unsound.proofs.Whole.{first_unsound_decides}
use Rattle.laws_unsound.proofs.unsound.first_unsound_decides.Goals as goal

pub returns : goal.returns
returns c = first_unsound_decides
