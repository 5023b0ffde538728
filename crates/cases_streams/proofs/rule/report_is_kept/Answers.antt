use Rattle.cases_streams.proofs.WorkedRule.{report_is_kept}
use Rattle.cases_streams.proofs.rule.report_is_kept.Goals as goal

pub returns : goal.returns
returns c = report_is_kept
