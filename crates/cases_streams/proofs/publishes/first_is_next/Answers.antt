use Rattle.cases_streams.proofs.WorkedPublishes.{first_is_next}
use Rattle.cases_streams.proofs.publishes.first_is_next.Goals as goal

pub returns : goal.returns
returns c = first_is_next
