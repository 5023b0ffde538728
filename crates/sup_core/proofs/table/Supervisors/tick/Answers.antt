use Rattle.sup_core.proofs.KeptTicked.{kept_ticked}
use Rattle.sup_core.proofs.Results.{on_both}
use Rattle.sup_core.proofs.table.Supervisors.tick.Goals as goal

pub invariant_of-self : goal.invariant_of-self
invariant_of-self c =
    on_both c.tick.result c.tick.ensures.passes c.tick.ensures.rows c.tick.ensures.err
    (λ p e. rw e (kept_ticked _ _ _ c.self.inside.supervisors c.self.inside.sequences c.self.invariant p))
    (λ e. rw e c.self.invariant)
