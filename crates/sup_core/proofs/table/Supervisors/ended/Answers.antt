use Rattle.std.proofs.Common.{of_z, to_z, w64}
use Rattle.tab_sequences.proofs.Results.{either}
use Rattle.sup_core.proofs.Keeping.{kept_ended}
use Rattle.sup_core.proofs.table.Supervisors.ended.Goals as goal

pub invariant_of-self : goal.invariant_of-self
invariant_of-self c =
    either c.end.result c.end.ensures.rows c.end.ensures.err
    (λ e. rw e (kept_ended c.self.inside.supervisors c.self.inside.sequences c.self.invariant c.args.task.now.group c.args.task.now.task (to_z w64 (of_z w64 c.args.clock))))
    (λ e. rw e c.self.invariant)
