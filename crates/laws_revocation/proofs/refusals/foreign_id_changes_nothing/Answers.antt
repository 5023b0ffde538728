use Rattle.laws_revocation.proofs.RefusedPublishes.{foreign_id_changes_nothing}
use Rattle.laws_revocation.proofs.refusals.foreign_id_changes_nothing.Goals as goal

pub returns : goal.returns
returns c = foreign_id_changes_nothing
