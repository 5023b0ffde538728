use Rattle.cases_streams.proofs.WorkedMoves.{opening_is_seen}
use Rattle.cases_streams.proofs.moves.opening_is_seen.Goals as goal

pub returns : goal.returns
returns c = opening_is_seen
