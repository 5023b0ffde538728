use Rattle.tab_pending.proofs.Spans.{all_filter}
use Rattle.tab_pending.proofs.table.Pendings.take_posses.Goals as goal

pub invariant_of-self : goal.invariant_of-self
invariant_of-self c =
    rw (c.strip_pendings.ensures, c.strip_upgrades.ensures) (all_filter _ _ c.self.inside.pendings c.self.invariant.0, all_filter _ _ c.self.inside.upgrades c.self.invariant.1)
