use Rattle.lock_posse.proofs.Numbers.{distinct_granted}
use Rattle.lock_posse.proofs.Results.{either}
use Rattle.lock_posse.proofs.table.Posses.change.Goals as goal

pub invariant_of-self : goal.invariant_of-self
invariant_of-self c =
    either c.apply_granted.result c.apply_granted.ensures.ok c.apply_granted.ensures.err
    (λ e. rw e (distinct_granted c.args.task.now c.args.granted.now c.self.inside.rows c.self.invariant (rw c.self.view_is c.requires)))
    (λ e. rw e c.self.invariant)
