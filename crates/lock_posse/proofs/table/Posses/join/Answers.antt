use Rattle.lock_posse.proofs.Numbers.{distinct_joined}
use Rattle.lock_posse.proofs.Results.{either}
use Rattle.lock_posse.proofs.table.Posses.join.Goals as goal

pub invariant_of-self : goal.invariant_of-self
invariant_of-self c =
    either c.join_row.result c.join_row.ensures.ok c.join_row.ensures.err
    (λ e. rw e (distinct_joined c.args.number c.args.task c.self.inside.rows c.self.invariant))
    (λ e. rw e c.self.invariant)
