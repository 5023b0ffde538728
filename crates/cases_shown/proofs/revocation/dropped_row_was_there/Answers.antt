use Rattle.cases_shown.proofs.WorkedIds.{dropped_row_was_there}
use Rattle.cases_shown.proofs.revocation.dropped_row_was_there.Goals as goal

pub returns : goal.returns
returns c = dropped_row_was_there
