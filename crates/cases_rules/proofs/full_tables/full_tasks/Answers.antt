use Rattle.cases_rules.proofs.FullLaws.{full_tasks}
use Rattle.cases_rules.proofs.full_tables.full_tasks.Goals as goal

pub returns : goal.returns
returns c = full_tasks
