use Rattle.std.proofs.Common.{rules}
use Rattle.seg_alloc.proofs.PartsGiven.{first_given, taken_out}
use Rattle.seg_alloc.proofs.allotting.in_new_chunk.Goals as goal

pub returns-in-Err-clause-segments_kept : goal.returns-in-Err-clause-segments_kept
returns-in-Err-clause-segments_kept c =
    taken_out c.args.row c.args.segments.now c.add_chunk.new.self c.in_ok-id.id c.in_ok-chunk.chunk c.requires c.in_ok-id.ensures.id c.in_ok-chunk.ensures c.in_ok-add_chunk.ensures.ok c.take_chunk.new.self
    (search rules)

pub returns-clause-segments : goal.returns-clause-segments
returns-clause-segments c =
    first_given c.args.row c.args.segments.now c.add_chunk.new.self c.in_ok-id.id c.in_ok-chunk.chunk c.requires c.in_ok-id.ensures.id c.in_ok-chunk.ensures c.in_ok-add_chunk.ensures.ok
