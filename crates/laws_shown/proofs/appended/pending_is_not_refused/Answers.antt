use Rattle.laws_shown.proofs.Appending.{pending_is_not_refused}
use Rattle.laws_shown.proofs.appended.pending_is_not_refused.Goals as goal

pub returns : goal.returns
returns c = pending_is_not_refused
