use Rattle.cases_rules.proofs.FullLaws.{last_task}
use Rattle.cases_rules.proofs.full_tables.last_task.Goals as goal

pub returns : goal.returns
returns c = last_task
