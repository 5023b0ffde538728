use Rattle.cases_streams.proofs.WorkedMoves.{tick_is_seen}
use Rattle.cases_streams.proofs.moves.tick_is_seen.Goals as goal

pub returns : goal.returns
returns c = tick_is_seen
