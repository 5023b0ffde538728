use Rattle.cases_rules.proofs.FullLaws.{locked_before_full}
use Rattle.cases_rules.proofs.full_tables.locked_before_full.Goals as goal

pub returns : goal.returns
returns c = locked_before_full
