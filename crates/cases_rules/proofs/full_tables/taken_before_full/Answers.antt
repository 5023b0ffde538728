use Rattle.cases_rules.proofs.FullLaws.{taken_before_full}
use Rattle.cases_rules.proofs.full_tables.taken_before_full.Goals as goal

pub returns : goal.returns
returns c = taken_before_full
