use Rattle.cases_streams.proofs.WorkedPublishes.{stream_is_its_own}
use Rattle.cases_streams.proofs.publishes.stream_is_its_own.Goals as goal

pub returns : goal.returns
returns c = stream_is_its_own
