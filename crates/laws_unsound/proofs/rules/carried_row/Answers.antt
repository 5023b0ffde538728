use Rattle.laws_unsound.proofs.Tiling.{carried_row}
use Rattle.laws_unsound.proofs.rules.carried_row.Goals as goal

pub returns : goal.returns
returns c = carried_row
