use Rattle.cases_shown.proofs.WorkedLocks.{least_is_named}
use Rattle.cases_shown.proofs.revocation.least_is_named.Goals as goal

pub returns : goal.returns
returns c = least_is_named
