use Rattle.cases_streams.proofs.WorkedOffsets.{ranges_start_there}
use Rattle.cases_streams.proofs.offsets.ranges_start_there.Goals as goal

pub returns : goal.returns
returns c = ranges_start_there
