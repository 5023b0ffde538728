use Rattle.cases_streams.proofs.WorkedOffsets.{fault_is_seen}
use Rattle.cases_streams.proofs.offsets.fault_is_seen.Goals as goal

pub returns : goal.returns
returns c = fault_is_seen
