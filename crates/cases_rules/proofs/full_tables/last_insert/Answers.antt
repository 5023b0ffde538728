use Rattle.cases_rules.proofs.FullLaws.{last_insert}
use Rattle.cases_rules.proofs.full_tables.last_insert.Goals as goal

pub returns : goal.returns
returns c = last_insert
