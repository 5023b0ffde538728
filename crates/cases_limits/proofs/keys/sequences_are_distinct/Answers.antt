use Rattle.cases_limits.proofs.WorkedKeys.{sequences_are_distinct}
use Rattle.cases_limits.proofs.keys.sequences_are_distinct.Goals as goal

pub returns : goal.returns
returns c = sequences_are_distinct
