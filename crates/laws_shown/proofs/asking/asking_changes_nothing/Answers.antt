use Rattle.laws_shown.proofs.Answering.{asking_changes_nothing}
use Rattle.laws_shown.proofs.asking.asking_changes_nothing.Goals as goal

pub returns : goal.returns
returns c = asking_changes_nothing
