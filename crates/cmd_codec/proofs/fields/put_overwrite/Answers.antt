use Rattle.cmd_codec.proofs.Limits.{counts}
use Rattle.cmd_codec.proofs.fields.put_overwrite.Goals as goal

pub put_list-requires-2 : goal.put_list-requires-2
put_list-requires-2 c = rw c.as_slice-2.ensures (counts c.args.spans.now c.args.ids.now c.args.tombstones.now c.args.ranges.now c.requires).ids_are

pub put_ranges-requires : goal.put_ranges-requires
put_ranges-requires c = rw c.as_ref.ensures.value (counts c.args.spans.now c.args.ids.now c.args.tombstones.now c.args.ranges.now c.requires).ranges_are

pub put_tombstones-requires : goal.put_tombstones-requires
put_tombstones-requires c = rw c.as_slice-3.ensures (counts c.args.spans.now c.args.ids.now c.args.tombstones.now c.args.ranges.now c.requires).tombstones_are
