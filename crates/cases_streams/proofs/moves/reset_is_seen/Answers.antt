use Rattle.cases_streams.proofs.WorkedMoves.{reset_is_seen}
use Rattle.cases_streams.proofs.moves.reset_is_seen.Goals as goal

pub returns : goal.returns
returns c = reset_is_seen
