use Rattle.laws_unsound.proofs.LiveChunks.{below_locks_row}
use Rattle.laws_unsound.proofs.rules.below_locks_row.Goals as goal

pub returns : goal.returns
returns c = below_locks_row
