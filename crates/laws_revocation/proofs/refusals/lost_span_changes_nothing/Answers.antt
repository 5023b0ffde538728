use Rattle.laws_revocation.proofs.RefusedPublishes.{lost_span_changes_nothing}
use Rattle.laws_revocation.proofs.refusals.lost_span_changes_nothing.Goals as goal

pub returns : goal.returns
returns c = lost_span_changes_nothing
