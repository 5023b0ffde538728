use Rattle.laws_chunks.proofs.AllottingRoots.{chunk_keeps}
use Rattle.laws_chunks.proofs.changes.chunk_keeps.Goals as goal

pub returns : goal.returns
returns c = chunk_keeps
