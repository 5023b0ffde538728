use Rattle.laws_sequences.proofs.MovedLinks.{publication_keeps_linked}
use Rattle.laws_sequences.proofs.moves.publication_keeps_linked.Goals as goal

pub returns : goal.returns
returns c = publication_keeps_linked
