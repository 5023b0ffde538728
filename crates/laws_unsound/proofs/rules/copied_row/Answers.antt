use Rattle.laws_unsound.proofs.Standing.{copied_row}
use Rattle.laws_unsound.proofs.rules.copied_row.Goals as goal

pub returns : goal.returns
returns c = copied_row
