use Rattle.std.proofs.Common.{rules}
use Rattle.seg_alloc.proofs.PartsGiven.{part_given}
use Rattle.seg_alloc.proofs.allotting.in_chunk.Goals as goal

pub returns-clause-segments : goal.returns-clause-segments
returns-clause-segments c = part_given c.args.row c.args.segments.now c.set_next.new.self c.in_ok-id.id c.args.part c.requires.distinct c.requires.next c.in_ok-id.ensures.id (search rules)
