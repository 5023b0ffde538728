use Rattle.cases_rules.proofs.FullLaws.{repeat_before_full}
use Rattle.cases_rules.proofs.full_tables.repeat_before_full.Goals as goal

pub returns : goal.returns
returns c = repeat_before_full
