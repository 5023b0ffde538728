use Rattle.cases_streams.proofs.WorkedMoves.{abandoning_is_seen}
use Rattle.cases_streams.proofs.moves.abandoning_is_seen.Goals as goal

pub returns : goal.returns
returns c = abandoning_is_seen
