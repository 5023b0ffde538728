use Rattle.cases_rules.proofs.BrokenLaws.{rows_of_no_lock}
use Rattle.cases_rules.proofs.broken_books.rows_of_no_lock.Goals as goal

pub returns : goal.returns
returns c = rows_of_no_lock
