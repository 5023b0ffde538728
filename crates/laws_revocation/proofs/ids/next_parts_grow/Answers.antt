use Rattle.laws_revocation.proofs.GivenOnce.{next_parts_grow}
use Rattle.laws_revocation.proofs.ids.next_parts_grow.Goals as goal

pub returns : goal.returns
returns c = next_parts_grow
