use Rattle.laws_unsound.proofs.LiveChunks.{compatible_row}
use Rattle.laws_unsound.proofs.rules.compatible_row.Goals as goal

pub returns : goal.returns
returns c = compatible_row
