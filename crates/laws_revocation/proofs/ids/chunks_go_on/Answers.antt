use Rattle.laws_revocation.proofs.GivenOnce.{chunks_go_on}
use Rattle.laws_revocation.proofs.ids.chunks_go_on.Goals as goal

pub returns : goal.returns
returns c = chunks_go_on
