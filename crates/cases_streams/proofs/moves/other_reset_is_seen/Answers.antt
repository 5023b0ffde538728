use Rattle.cases_streams.proofs.WorkedMoves.{other_reset_is_seen}
use Rattle.cases_streams.proofs.moves.other_reset_is_seen.Goals as goal

pub returns : goal.returns
returns c = other_reset_is_seen
