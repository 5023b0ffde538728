use Rattle.laws_revocation.proofs.LostSpans.{lock_is_refused}
use Rattle.laws_revocation.proofs.refusals.lock_is_refused.Goals as goal

pub returns : goal.returns
returns c = lock_is_refused
