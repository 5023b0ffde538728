use Rattle.laws_revocation.proofs.RefusedPublishes.{insert_is_refused}
use Rattle.laws_revocation.proofs.refusals.insert_is_refused.Goals as goal

pub returns : goal.returns
returns c = insert_is_refused
