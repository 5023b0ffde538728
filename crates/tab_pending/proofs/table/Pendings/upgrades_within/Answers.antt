use Rattle.tab_pending.proofs.Spans.{taken_same}
use Rattle.tab_pending.proofs.table.Pendings.upgrades_within.Goals as goal

pub returns : goal.returns
returns c =
    rw (← c.self.view_is, ← taken_same c.args.lock c.args.span c.self.inside.upgrades c.self.invariant.1, ← c.in_ok-found.ensures, ← c.as_slice.ensures.value) c.roots_of.ensures
