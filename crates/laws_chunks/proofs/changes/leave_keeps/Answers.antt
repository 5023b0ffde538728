use Rattle.laws_chunks.proofs.LosingLocks.{leave_keeps}
use Rattle.laws_chunks.proofs.changes.leave_keeps.Goals as goal

pub returns : goal.returns
returns c = leave_keeps
