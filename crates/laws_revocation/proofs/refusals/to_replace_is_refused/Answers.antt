use Rattle.laws_revocation.proofs.LostSpans.{to_replace_is_refused}
use Rattle.laws_revocation.proofs.refusals.to_replace_is_refused.Goals as goal

pub returns : goal.returns
returns c = to_replace_is_refused
