use Rattle.cases_streams.proofs.WorkedRule.{reports_are_told}
use Rattle.cases_streams.proofs.rule.reports_are_told.Goals as goal

pub returns : goal.returns
returns c = reports_are_told
