use Rattle.std.proofs.Common.{sym, ◌∙◌}
use Rattle.timeline_kept.proofs.Placing.{chunks_popped}
use Rattle.timeline_kept.proofs.part_list.PartList.pop.Goals as goal

pub returns-clause-some : goal.returns-clause-some
returns-clause-some c =
    sym c.self.view_is
    ∙ chunks_popped c.self.inside.parts.items c.pop.new.self.items c.self.inside.chunks.items c.pop-2.new.self.items c.in_ok-part.part c.in-Some.chunk c.in_ok-part.ensures.items c.in-Some.ensures.items c.self.invariant
