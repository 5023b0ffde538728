use Rattle.laws_revocation.proofs.AllocatedIds.{allocate_answers}
use Rattle.laws_revocation.proofs.ids.allocate_answers.Goals as goal

pub returns : goal.returns
returns c = allocate_answers
