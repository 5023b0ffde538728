use Rattle.laws_chunks.proofs.InsertingSpans.{insert_keeps}
use Rattle.laws_chunks.proofs.changes.insert_keeps.Goals as goal

pub returns : goal.returns
returns c = insert_keeps
