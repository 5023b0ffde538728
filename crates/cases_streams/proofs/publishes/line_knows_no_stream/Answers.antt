use Rattle.cases_streams.proofs.WorkedPublishes.{line_knows_no_stream}
use Rattle.cases_streams.proofs.publishes.line_knows_no_stream.Goals as goal

pub returns : goal.returns
returns c = line_knows_no_stream
