use Rattle.tab_sequences.proofs.Results.{either}
use Rattle.sup_core.proofs.Keeping.{kept_reported}
use Rattle.sup_core.proofs.table.Supervisors.report.Goals as goal

pub invariant_of-self : goal.invariant_of-self
invariant_of-self c =
    either c.report.result c.report.ensures.rows c.report.ensures.err
    (λ e. rw e (kept_reported c.self.inside.supervisors c.self.inside.sequences c.self.invariant _ _ _ _))
    (λ e. rw e c.self.invariant)
