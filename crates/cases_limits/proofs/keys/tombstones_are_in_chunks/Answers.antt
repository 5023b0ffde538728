use Rattle.cases_limits.proofs.WorkedKeys.{tombstones_are_in_chunks}
use Rattle.cases_limits.proofs.keys.tombstones_are_in_chunks.Goals as goal

pub returns : goal.returns
returns c = tombstones_are_in_chunks
