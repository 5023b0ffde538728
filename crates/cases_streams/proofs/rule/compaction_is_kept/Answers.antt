use Rattle.cases_streams.proofs.WorkedRule.{compaction_is_kept}
use Rattle.cases_streams.proofs.rule.compaction_is_kept.Goals as goal

pub returns : goal.returns
returns c = compaction_is_kept
