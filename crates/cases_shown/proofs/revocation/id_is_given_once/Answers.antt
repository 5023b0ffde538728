use Rattle.cases_shown.proofs.WorkedRevocation.{id_is_given_once}
use Rattle.cases_shown.proofs.revocation.id_is_given_once.Goals as goal

pub returns : goal.returns
returns c = id_is_given_once
