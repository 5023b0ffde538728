use Rattle.laws_sequences.proofs.MovedLinks.{report_keeps_linked}
use Rattle.laws_sequences.proofs.moves.report_keeps_linked.Goals as goal

pub returns : goal.returns
returns c = report_keeps_linked
