use Rattle.laws_sequences.proofs.MovedLinks.{pause_keeps_linked}
use Rattle.laws_sequences.proofs.moves.pause_keeps_linked.Goals as goal

pub returns : goal.returns
returns c = pause_keeps_linked
