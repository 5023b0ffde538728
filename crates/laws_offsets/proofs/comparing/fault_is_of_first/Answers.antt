use Rattle.laws_offsets.proofs.Faults.{fault_is_of_first}
use Rattle.laws_offsets.proofs.comparing.fault_is_of_first.Goals as goal

pub returns : goal.returns
returns c = fault_is_of_first
