use Rattle.laws_sequences.proofs.MovedLinks.{tick_keeps_linked}
use Rattle.laws_sequences.proofs.moves.tick_keeps_linked.Goals as goal

pub returns : goal.returns
returns c = tick_keeps_linked
