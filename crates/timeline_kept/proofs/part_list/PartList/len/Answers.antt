use Rattle.std.proofs.Common.{arith}
use Rattle.timeline_kept.proofs.Placing.{length_chunks}
use Rattle.timeline_kept.proofs.part_list.PartList.len.Goals as goal

pub returns : goal.returns
returns c = rw (← c.self.view_is) (omega (arith, length_chunks c.self.inside.parts.items c.self.inside.chunks.items c.self.invariant))
