use Rattle.laws_shown.proofs.Appending.{appended_is_shown}
use Rattle.laws_shown.proofs.appended.appended_is_shown.Goals as goal

pub returns : goal.returns
returns c = appended_is_shown
