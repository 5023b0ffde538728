use Rattle.cases_rules.proofs.BrokenLaws.{offset_of_no_range}
use Rattle.cases_rules.proofs.broken_books.offset_of_no_range.Goals as goal

pub returns : goal.returns
returns c = offset_of_no_range
