use Rattle.sup_core.proofs.Keeping.{kept_none}
use Rattle.sup_core.proofs.table.Supervisors.new.Goals as goal

pub invariant_of-result : goal.invariant_of-result
invariant_of-result c = rw (c.new.ensures, c.new-2.ensures) kept_none
