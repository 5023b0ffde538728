use Rattle.cases_rules.proofs.FullLaws.{full_drop}
use Rattle.cases_rules.proofs.full_tables.full_drop.Goals as goal

pub returns : goal.returns
returns c = full_drop
