use Rattle.cases_rules.proofs.BrokenLaws.{wrong_upper_chunks}
use Rattle.cases_rules.proofs.broken_books.wrong_upper_chunks.Goals as goal

pub returns : goal.returns
returns c = wrong_upper_chunks
