use Rattle.cases_streams.proofs.WorkedPublishes.{repeat_is_on_stream}
use Rattle.cases_streams.proofs.publishes.repeat_is_on_stream.Goals as goal

pub returns : goal.returns
returns c = repeat_is_on_stream
