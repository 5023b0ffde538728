use Rattle.cases_streams.proofs.WorkedPublishes.{ranges_are_its_own}
use Rattle.cases_streams.proofs.publishes.ranges_are_its_own.Goals as goal

pub returns : goal.returns
returns c = ranges_are_its_own
