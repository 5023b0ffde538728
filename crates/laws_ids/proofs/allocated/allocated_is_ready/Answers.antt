use Rattle.laws_ids.proofs.Waiting.{allocated_is_ready}
use Rattle.laws_ids.proofs.allocated.allocated_is_ready.Goals as goal

pub returns : goal.returns
returns c = allocated_is_ready
