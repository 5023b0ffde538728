use Rattle.cases_rules.proofs.BrokenLaws.{unrevoked_lock}
use Rattle.cases_rules.proofs.broken_books.unrevoked_lock.Goals as goal

pub returns : goal.returns
returns c = unrevoked_lock
