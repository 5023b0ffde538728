use Rattle.laws_unsound.proofs.Standing.{rooted_row}
use Rattle.laws_unsound.proofs.rules.rooted_row.Goals as goal

pub returns : goal.returns
returns c = rooted_row
