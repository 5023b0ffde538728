use Rattle.laws_chunks.proofs.PushingPublications.{push_keeps}
use Rattle.laws_chunks.proofs.changes.push_keeps.Goals as goal

pub returns : goal.returns
returns c = push_keeps
