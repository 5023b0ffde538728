use Rattle.laws_chunks.proofs.LosingLocks.{revoke_keeps}
use Rattle.laws_chunks.proofs.changes.revoke_keeps.Goals as goal

pub returns : goal.returns
returns c = revoke_keeps
