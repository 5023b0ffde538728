use Rattle.laws_offsets.proofs.Faults.{no_fault_where_all_go_on}
use Rattle.laws_offsets.proofs.comparing.no_fault_where_all_go_on.Goals as goal

pub returns : goal.returns
returns c = no_fault_where_all_go_on
