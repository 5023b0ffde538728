use Rattle.cases_shown.proofs.WorkedIds.{chunk_goes_on}
use Rattle.cases_shown.proofs.revocation.chunk_goes_on.Goals as goal

pub returns : goal.returns
returns c = chunk_goes_on
