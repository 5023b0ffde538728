use Rattle.laws_chunks.proofs.LosingLocks.{join_keeps}
use Rattle.laws_chunks.proofs.changes.join_keeps.Goals as goal

pub returns : goal.returns
returns c = join_keeps
