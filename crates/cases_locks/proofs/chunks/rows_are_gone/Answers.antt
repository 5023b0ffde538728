use Rattle.cases_locks.proofs.PublishCaseLaws.{rows_are_gone}
use Rattle.cases_locks.proofs.chunks.rows_are_gone.Goals as goal

pub returns : goal.returns
returns c = rows_are_gone
