use Rattle.sup_core.proofs.Keeping.{kept_supervised}
use Rattle.sup_core.proofs.Results.{on_both}
use Rattle.sup_core.proofs.table.Supervisors.supervise.Goals as goal

pub invariant_of-self : goal.invariant_of-self
invariant_of-self c =
    on_both c.supervise_in.result c.supervise_in.ensures.passes c.supervise_in.ensures.rows c.supervise_in.ensures.err
    (λ p e. rw e (kept_supervised c.self.inside.supervisors c.self.inside.sequences c.args.row c.supervise_in.ensures.groups p c.self.invariant))
    (λ e. rw e c.self.invariant)
