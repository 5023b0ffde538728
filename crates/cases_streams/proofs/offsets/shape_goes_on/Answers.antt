use Rattle.cases_streams.proofs.WorkedOffsets.{shape_goes_on}
use Rattle.cases_streams.proofs.offsets.shape_goes_on.Goals as goal

pub returns : goal.returns
returns c = shape_goes_on
