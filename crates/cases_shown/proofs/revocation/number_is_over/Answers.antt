use Rattle.cases_shown.proofs.WorkedLocks.{number_is_over}
use Rattle.cases_shown.proofs.revocation.number_is_over.Goals as goal

pub returns : goal.returns
returns c = number_is_over
