use Rattle.cases_streams.proofs.WorkedMoves.{publication_is_seen}
use Rattle.cases_streams.proofs.moves.publication_is_seen.Goals as goal

pub returns : goal.returns
returns c = publication_is_seen
