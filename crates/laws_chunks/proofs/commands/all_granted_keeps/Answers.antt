use Rattle.laws_chunks.proofs.SeveralRequests.{all_granted_keeps}
use Rattle.laws_chunks.proofs.commands.all_granted_keeps.Goals as goal

pub returns : goal.returns
returns c = all_granted_keeps
