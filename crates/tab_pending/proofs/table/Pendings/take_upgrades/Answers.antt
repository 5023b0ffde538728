use Rattle.std.proofs.Common.{refl}
use Rattle.tab_pending.proofs.Spans.{all_filter, untaken_same}
use Rattle.tab_pending.proofs.table.Pendings.take_upgrades.Goals as goal

pub invariant_of-self : goal.invariant_of-self
invariant_of-self c = rw c.remove_all.ensures (c.self.invariant.0, all_filter _ _ c.self.inside.upgrades c.self.invariant.1)

pub returns : goal.returns
returns c = rw (← c.self.view_is, c.remove_all.ensures, untaken_same c.args.lock c.args.span c.self.inside.upgrades c.self.invariant.1) refl
