use Rattle.cases_streams.proofs.WorkedOffsets.{first_fault_is_told}
use Rattle.cases_streams.proofs.offsets.first_fault_is_told.Goals as goal

pub returns : goal.returns
returns c = first_fault_is_told
