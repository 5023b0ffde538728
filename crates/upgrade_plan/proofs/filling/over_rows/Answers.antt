use Rattle.std.proofs.Common.{arith}
use Rattle.std.proofs.lemmas.Grind.{common_steps}
use Rattle.publish_core.specs.Kinds.{filling_of}
use Rattle.upgrade_plan.proofs.Counting.{no_chunk_full, pendings_are, segments_by}
use Rattle.upgrade_plan.proofs.filling.over_rows.Goals as goal

pub returns-clause-segments : goal.returns-clause-segments
returns-clause-segments c =
    segments_by (filling_of c.args.filling) c.args.pendings.now c.args.source.now c.args.commit c.args.targets.now c.args.ids.now c.new.result.ids.now c.args.tombstones.now c.new-tombstones.result.ids.now
    c.in_ok-segments.segments.items c.add_all.new.rows.segments.items c.new.ensures c.new-tombstones.ensures c.in_ok-segments.ensures c.in_ok-add_all.ensures.segments

pub returns-clause-pendings : goal.returns-clause-pendings
returns-clause-pendings c = grind (arith, common_steps, pendings_are (filling_of c.args.filling) c.args.pendings.now c.args.source.now c.args.ids.now c.args.commit c.args.targets.now)

pub returns-clause-parts : goal.returns-clause-parts
returns-clause-parts c =
    grind (arith, common_steps, no_chunk_full (filling_of c.args.filling) c.args.pendings.now c.args.source.now c.args.ids.now c.args.commit c.requires.few (record { pendings = c.requires.pendings; upgrades = c.requires.upgrades }) c.args.targets.now)
