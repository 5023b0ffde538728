use Rattle.std.proofs.Common.{◌∙◌}
use Rattle.sup_core.proofs.Loops.{replicas_more}
use Rattle.sup_core.proofs.opening.replicas_of.Goals as goal

pub loop-number-preserved : goal.loop-number-preserved
loop-number-preserved c = c.in_ok-push.ensures.ok ∙ replicas_more c.args.name.now c.loop-number.number c.loop-number.live c.in_ok-replica_id.field-0 c.loop-number.invariant c.in_ok-replica_id.ensures
