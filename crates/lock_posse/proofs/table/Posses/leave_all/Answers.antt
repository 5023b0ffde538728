use Rattle.book_rows.specs.Locks.{locks_of}
use Rattle.lock_posse.proofs.Numbers.{distinct_left_rows}
use Rattle.lock_posse.proofs.Results.{either}
use Rattle.lock_posse.proofs.table.Posses.leave_all.Goals as goal

pub invariant_of-self : goal.invariant_of-self
invariant_of-self c =
    either c.leave_rows.result c.leave_rows.ensures.rows c.leave_rows.ensures.err
    (λ e. rw e (distinct_left_rows (locks_of c.args.task.now c.self.inside.rows) c.args.task.now c.self.inside.rows c.self.invariant))
    (λ e. rw e c.self.invariant)
