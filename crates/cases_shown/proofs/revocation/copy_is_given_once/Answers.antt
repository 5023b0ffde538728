use Rattle.cases_shown.proofs.WorkedRevocation.{copy_is_given_once}
use Rattle.cases_shown.proofs.revocation.copy_is_given_once.Goals as goal

pub returns : goal.returns
returns c = copy_is_given_once
