use Rattle.laws_unsound.proofs.Tiling.{tiled_row}
use Rattle.laws_unsound.proofs.rules.tiled_row.Goals as goal

pub returns : goal.returns
returns c = tiled_row
