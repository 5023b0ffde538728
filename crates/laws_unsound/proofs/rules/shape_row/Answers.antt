use Rattle.laws_unsound.proofs.Shaping.{shape_row}
use Rattle.laws_unsound.proofs.rules.shape_row.Goals as goal

pub returns : goal.returns
returns c = shape_row
