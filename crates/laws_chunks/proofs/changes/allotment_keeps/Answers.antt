use Rattle.laws_chunks.proofs.AllottingRoots.{allotment_keeps}
use Rattle.laws_chunks.proofs.changes.allotment_keeps.Goals as goal

pub returns : goal.returns
returns c = allotment_keeps
