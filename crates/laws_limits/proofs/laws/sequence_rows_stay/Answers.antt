use Rattle.laws_limits.proofs.SequenceRows.{sequence_rows_stay}
use Rattle.laws_limits.proofs.laws.sequence_rows_stay.Goals as goal

pub returns : goal.returns
returns c = sequence_rows_stay
