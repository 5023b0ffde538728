use Rattle.cases_streams.proofs.WorkedPublishes.{number_is_one}
use Rattle.cases_streams.proofs.publishes.number_is_one.Goals as goal

pub returns : goal.returns
returns c = number_is_one
