use Rattle.laws_chunks.proofs.Meanings.{carried_are_added}
use Rattle.laws_chunks.proofs.meaning.carried_are_added.Goals as goal

pub returns : goal.returns
returns c = carried_are_added
