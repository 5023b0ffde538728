use Rattle.cases_streams.proofs.WorkedPublishes.{number_is_its_place}
use Rattle.cases_streams.proofs.publishes.number_is_its_place.Goals as goal

pub returns : goal.returns
returns c = number_is_its_place
