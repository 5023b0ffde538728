use Rattle.cases_shown.proofs.WorkedLocks.{to_replace_is_lost}
use Rattle.cases_shown.proofs.revocation.to_replace_is_lost.Goals as goal

pub returns : goal.returns
returns c = to_replace_is_lost
