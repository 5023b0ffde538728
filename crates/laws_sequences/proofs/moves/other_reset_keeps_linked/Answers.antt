use Rattle.laws_sequences.proofs.MovedLinks.{other_reset_keeps_linked}
use Rattle.laws_sequences.proofs.moves.other_reset_keeps_linked.Goals as goal

pub returns : goal.returns
returns c = other_reset_keeps_linked
