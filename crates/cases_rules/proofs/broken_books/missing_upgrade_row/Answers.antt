use Rattle.cases_rules.proofs.BrokenLaws.{missing_upgrade_row}
use Rattle.cases_rules.proofs.broken_books.missing_upgrade_row.Goals as goal

pub returns : goal.returns
returns c = missing_upgrade_row
