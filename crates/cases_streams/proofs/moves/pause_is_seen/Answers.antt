use Rattle.cases_streams.proofs.WorkedMoves.{pause_is_seen}
use Rattle.cases_streams.proofs.moves.pause_is_seen.Goals as goal

pub returns : goal.returns
returns c = pause_is_seen
