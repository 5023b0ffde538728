use Rattle.laws_unsound.proofs.Standing.{whole_row}
use Rattle.laws_unsound.proofs.rules.whole_row.Goals as goal

pub returns : goal.returns
returns c = whole_row
