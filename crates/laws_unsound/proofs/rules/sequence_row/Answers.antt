use Rattle.laws_unsound.proofs.Sequencing.{sequence_row}
use Rattle.laws_unsound.proofs.rules.sequence_row.Goals as goal

pub returns : goal.returns
returns c = sequence_row
