use Rattle.laws_revocation.proofs.LostSpans.{new_id_is_refused}
use Rattle.laws_revocation.proofs.refusals.new_id_is_refused.Goals as goal

pub returns : goal.returns
returns c = new_id_is_refused
