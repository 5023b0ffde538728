use Rattle.cases_rules.proofs.BrokenLaws.{wrong_cores}
use Rattle.cases_rules.proofs.broken_books.wrong_cores.Goals as goal

pub returns : goal.returns
returns c = wrong_cores
