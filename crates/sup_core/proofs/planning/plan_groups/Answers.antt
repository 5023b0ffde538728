use Rattle.std.proofs.Common.{◌∙◌, of_z, to_z, w64}
use Rattle.sup_core.proofs.Loops.{groups_step}
use Rattle.sup_core.proofs.planning.plan_groups.Goals as goal

pub loop-group-preserved : goal.loop-group-preserved
loop-group-preserved c =
    groups_step c.args.streams.now.offsets c.args.row.now (to_z w64 (of_z w64 c.args.moment)) c.args.sequences.now c.loop-group.group c.loop-group.plan c.plan_where.new.plan c.loop-group-test.true c.in_ok-plan_where.ensures
    ∙ c.loop-group.invariant
