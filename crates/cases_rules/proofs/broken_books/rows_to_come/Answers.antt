use Rattle.cases_rules.proofs.BrokenLaws.{rows_to_come}
use Rattle.cases_rules.proofs.broken_books.rows_to_come.Goals as goal

pub returns : goal.returns
returns c = rows_to_come
