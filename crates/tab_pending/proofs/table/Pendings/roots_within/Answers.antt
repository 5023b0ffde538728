use Rattle.tab_pending.proofs.Spans.{copied_same}
use Rattle.tab_pending.proofs.table.Pendings.roots_within.Goals as goal

pub returns : goal.returns
returns c =
    rw (← c.self.view_is, ← copied_same c.args.source.now c.args.span c.self.inside.pendings c.self.invariant.0, ← c.in_ok-found.ensures, ← c.as_slice.ensures.value) c.rows_of.ensures
