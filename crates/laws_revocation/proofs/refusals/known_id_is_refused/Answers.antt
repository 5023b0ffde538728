use Rattle.laws_revocation.proofs.LostSpans.{known_id_is_refused}
use Rattle.laws_revocation.proofs.refusals.known_id_is_refused.Goals as goal

pub returns : goal.returns
returns c = known_id_is_refused
