use Rattle.laws_shown.proofs.Allocating.{allocated_is_pending}
use Rattle.laws_shown.proofs.appended.allocated_is_pending.Goals as goal

pub returns : goal.returns
returns c = allocated_is_pending
