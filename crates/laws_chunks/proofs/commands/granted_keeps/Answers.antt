use Rattle.laws_chunks.proofs.GrantedRequests.{granted_keeps}
use Rattle.laws_chunks.proofs.commands.granted_keeps.Goals as goal

pub returns : goal.returns
returns c = granted_keeps
