use Rattle.cases_rules.proofs.BrokenLaws.{copy_lost_or_doubled}
use Rattle.cases_rules.proofs.broken_books.copy_lost_or_doubled.Goals as goal

pub returns : goal.returns
returns c = copy_lost_or_doubled
