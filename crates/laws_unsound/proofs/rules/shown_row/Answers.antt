use Rattle.laws_unsound.proofs.Tiling.{shown_row}
use Rattle.laws_unsound.proofs.rules.shown_row.Goals as goal

pub returns : goal.returns
returns c = shown_row
