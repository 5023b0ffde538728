use Rattle.cases_streams.proofs.WorkedMoves.{report_is_seen}
use Rattle.cases_streams.proofs.moves.report_is_seen.Goals as goal

pub returns : goal.returns
returns c = report_is_seen
