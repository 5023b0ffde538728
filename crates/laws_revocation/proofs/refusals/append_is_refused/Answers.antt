use Rattle.laws_revocation.proofs.RefusedPublishes.{append_is_refused}
use Rattle.laws_revocation.proofs.refusals.append_is_refused.Goals as goal

pub returns : goal.returns
returns c = append_is_refused
