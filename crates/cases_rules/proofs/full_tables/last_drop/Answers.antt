use Rattle.cases_rules.proofs.FullLaws.{last_drop}
use Rattle.cases_rules.proofs.full_tables.last_drop.Goals as goal

pub returns : goal.returns
returns c = last_drop
