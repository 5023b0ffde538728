use Rattle.cases_streams.proofs.WorkedOffsets.{names_go_on}
use Rattle.cases_streams.proofs.offsets.names_go_on.Goals as goal

pub returns : goal.returns
returns c = names_go_on
