use Rattle.laws_chunks.proofs.ReorderedRows.{same_used_keeps}
use Rattle.laws_chunks.proofs.changes.same_used_keeps.Goals as goal

pub returns : goal.returns
returns c = same_used_keeps
