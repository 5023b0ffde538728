use Rattle.laws_sequences.proofs.MovedLinks.{end_keeps_linked}
use Rattle.laws_sequences.proofs.moves.end_keeps_linked.Goals as goal

pub returns : goal.returns
returns c = end_keeps_linked
