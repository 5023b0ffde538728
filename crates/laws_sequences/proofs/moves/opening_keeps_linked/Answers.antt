use Rattle.laws_sequences.proofs.MovedLinks.{opening_keeps_linked}
use Rattle.laws_sequences.proofs.moves.opening_keeps_linked.Goals as goal

pub returns : goal.returns
returns c = opening_keeps_linked
