use Rattle.cases_streams.proofs.WorkedRule.{rule_is_kept}
use Rattle.cases_streams.proofs.rule.rule_is_kept.Goals as goal

pub returns : goal.returns
returns c = rule_is_kept
