use Rattle.laws_revocation.proofs.RefusedPublishes.{not_pending_is_not_allocated}
use Rattle.laws_revocation.proofs.refusals.not_pending_is_not_allocated.Goals as goal

pub returns : goal.returns
returns c = not_pending_is_not_allocated
