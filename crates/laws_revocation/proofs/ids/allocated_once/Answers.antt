use Rattle.laws_revocation.proofs.AllocatedIds.{allocated_once}
use Rattle.laws_revocation.proofs.ids.allocated_once.Goals as goal

pub returns : goal.returns
returns c = allocated_once
