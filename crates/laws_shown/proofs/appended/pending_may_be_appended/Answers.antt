use Rattle.laws_shown.proofs.Appending.{pending_may_be_appended}
use Rattle.laws_shown.proofs.appended.pending_may_be_appended.Goals as goal

pub returns : goal.returns
returns c = pending_may_be_appended
