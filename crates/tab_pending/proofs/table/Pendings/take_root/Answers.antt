use Rattle.tab_pending.proofs.Spans.{all_filter}
use Rattle.tab_pending.proofs.table.Pendings.take_root.Goals as goal

pub invariant_of-self : goal.invariant_of-self
invariant_of-self c = rw c.remove_all.ensures (all_filter _ _ c.self.inside.pendings c.self.invariant.0, c.self.invariant.1)
