use Rattle.lock_posse.proofs.Numbers.{distinct_left}
use Rattle.lock_posse.proofs.table.Posses.leave.Goals as goal

pub invariant_of-self : goal.invariant_of-self
invariant_of-self c = rw c.leave_row.ensures.rows (distinct_left c.args.number c.args.task.now c.self.inside.rows c.self.invariant)
