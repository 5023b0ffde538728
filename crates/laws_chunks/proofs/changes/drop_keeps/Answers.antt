use Rattle.laws_chunks.proofs.DroppingSpans.{drop_keeps}
use Rattle.laws_chunks.proofs.changes.drop_keeps.Goals as goal

pub returns : goal.returns
returns c = drop_keeps
