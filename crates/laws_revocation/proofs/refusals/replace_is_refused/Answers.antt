use Rattle.laws_revocation.proofs.RefusedPublishes.{replace_is_refused}
use Rattle.laws_revocation.proofs.refusals.replace_is_refused.Goals as goal

pub returns : goal.returns
returns c = replace_is_refused
