use Rattle.cases_streams.proofs.WorkedOffsets.{tiles_go_on}
use Rattle.cases_streams.proofs.offsets.tiles_go_on.Goals as goal

pub returns : goal.returns
returns c = tiles_go_on
