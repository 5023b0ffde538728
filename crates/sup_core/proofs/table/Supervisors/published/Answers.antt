use Rattle.sup_core.proofs.Keeping.{kept_published}
use Rattle.sup_core.proofs.table.Supervisors.published.Goals as goal

pub invariant_of-self : goal.invariant_of-self
invariant_of-self c = rw c.publish.ensures (kept_published c.self.inside.supervisors c.self.inside.sequences c.self.invariant c.args.group.now)
