use Rattle.laws_chunks.proofs.AppendingRoots.{append_keeps}
use Rattle.laws_chunks.proofs.changes.append_keeps.Goals as goal

pub returns : goal.returns
returns c = append_keeps
