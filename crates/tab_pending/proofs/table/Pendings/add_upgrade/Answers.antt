use Rattle.tab_pending.proofs.Spans.{all_push, either}
use Rattle.tab_pending.proofs.table.Pendings.add_upgrade.Goals as goal

pub invariant_of-self : goal.invariant_of-self
invariant_of-self c =
    either c.push.result c.push.ensures.ok c.push.ensures.err
    (λ e. rw e (c.self.invariant.0, all_push _ c.self.inside.upgrades c.args.row c.self.invariant.1 c.start-start.ensures.ordered))
    (λ e. rw e c.self.invariant)
