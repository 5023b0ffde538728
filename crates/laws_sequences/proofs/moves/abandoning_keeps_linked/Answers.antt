use Rattle.laws_sequences.proofs.MovedLinks.{abandoning_keeps_linked}
use Rattle.laws_sequences.proofs.moves.abandoning_keeps_linked.Goals as goal

pub returns : goal.returns
returns c = abandoning_keeps_linked
