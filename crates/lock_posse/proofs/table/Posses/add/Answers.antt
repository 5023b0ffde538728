use Rattle.lock_posse.proofs.Numbers.{distinct_pushed}
use Rattle.lock_posse.proofs.Results.{either}
use Rattle.lock_posse.proofs.table.Posses.add.Goals as goal

pub invariant_of-self : goal.invariant_of-self
invariant_of-self c =
    either c.push.result c.push.ensures.ok c.push.ensures.err
    (λ e. rw e (distinct_pushed c.self.inside.rows c.args.row c.self.invariant (rw c.self.view_is c.requires)))
    (λ e. rw e c.self.invariant)
