use Rattle.cases_limits.proofs.WorkedKeys.{copies_are_no_requests}
use Rattle.cases_limits.proofs.keys.copies_are_no_requests.Goals as goal

pub returns : goal.returns
returns c = copies_are_no_requests
