use Rattle.cases_limits.proofs.WorkedKeys.{ids_are_in_chunks}
use Rattle.cases_limits.proofs.keys.ids_are_in_chunks.Goals as goal

pub returns : goal.returns
returns c = ids_are_in_chunks
