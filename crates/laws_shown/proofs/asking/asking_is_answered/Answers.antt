use Rattle.laws_shown.proofs.Answering.{asking_is_answered}
use Rattle.laws_shown.proofs.asking.asking_is_answered.Goals as goal

pub returns : goal.returns
returns c = asking_is_answered
