use Rattle.cases_limits.proofs.WorkedKeys.{emptied_is_keyed}
use Rattle.cases_limits.proofs.keys.emptied_is_keyed.Goals as goal

pub returns : goal.returns
returns c = emptied_is_keyed
