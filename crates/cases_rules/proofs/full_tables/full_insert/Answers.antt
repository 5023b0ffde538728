use Rattle.cases_rules.proofs.FullLaws.{full_insert}
use Rattle.cases_rules.proofs.full_tables.full_insert.Goals as goal

pub returns : goal.returns
returns c = full_insert
