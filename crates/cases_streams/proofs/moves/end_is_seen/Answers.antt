use Rattle.cases_streams.proofs.WorkedMoves.{end_is_seen}
use Rattle.cases_streams.proofs.moves.end_is_seen.Goals as goal

pub returns : goal.returns
returns c = end_is_seen
