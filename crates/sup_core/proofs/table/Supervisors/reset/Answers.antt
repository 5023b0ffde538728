use Rattle.tab_sequences.proofs.Results.{either}
use Rattle.sup_core.proofs.Distinct.{distinct_names}
use Rattle.sup_core.proofs.Keeping.{kept_dropped}
use Rattle.sup_core.proofs.table.Supervisors.reset.Goals as goal

pub reset_in-requires : goal.reset_in-requires
reset_in-requires c = distinct_names c.self.inside.sequences c.self.invariant.counted c.self.invariant.keys

pub invariant_of-self : goal.invariant_of-self
invariant_of-self c =
    either c.reset_in.result c.reset_in.ensures.rows c.reset_in.ensures.err
    (λ e. rw e (kept_dropped c.self.inside.supervisors c.self.inside.sequences c.self.invariant _ _))
    (λ e. rw e c.self.invariant)
