use Rattle.laws_sequences.proofs.MovedLinks.{reset_keeps_linked}
use Rattle.laws_sequences.proofs.moves.reset_keeps_linked.Goals as goal

pub returns : goal.returns
returns c = reset_keeps_linked
