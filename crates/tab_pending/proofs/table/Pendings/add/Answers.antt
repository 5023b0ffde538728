use Rattle.tab_pending.proofs.Spans.{all_push, either}
use Rattle.tab_pending.proofs.table.Pendings.add.Goals as goal

pub invariant_of-self : goal.invariant_of-self
invariant_of-self c =
    either c.push.result c.push.ensures.ok c.push.ensures.err
    (λ e. rw e (all_push _ c.self.inside.pendings c.args.row c.self.invariant.0 c.start-start.ensures.ordered, c.self.invariant.1))
    (λ e. rw e c.self.invariant)
