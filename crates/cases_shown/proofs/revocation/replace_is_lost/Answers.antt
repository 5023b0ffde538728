use Rattle.cases_shown.proofs.WorkedRevocation.{replace_is_lost}
use Rattle.cases_shown.proofs.revocation.replace_is_lost.Goals as goal

pub returns : goal.returns
returns c = replace_is_lost
