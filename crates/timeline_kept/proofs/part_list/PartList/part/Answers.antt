use Rattle.std.proofs.Common.{ap, arith, length, sym, ◌≡◌, ◌∙◌}
use Rattle.timeline_kept.proofs.Placing.{get_chunks, length_chunks}
use Rattle.timeline_view.proofs.Places.{there}
use Rattle.timeline_kept.proofs.part_list.PartList.part.Goals as goal

pub index-requires : goal.index-requires
index-requires c =
    let long : length c.args.self.now ≡ length c.self.inside.parts.items = sym (ap length c.self.view_is) ∙ length_chunks c.self.inside.parts.items c.self.inside.chunks.items c.self.invariant in
    omega (arith, c.requires, long)

pub index-requires-2 : goal.index-requires-2
index-requires-2 c =
    let long : length c.args.self.now ≡ length c.self.inside.parts.items = sym (ap length c.self.view_is) ∙ length_chunks c.self.inside.parts.items c.self.inside.chunks.items c.self.invariant in
    omega (arith, c.requires, long, c.self.invariant)

pub returns : goal.returns
returns c =
    let ps = c.self.inside.parts.items in
    let cs = c.self.inside.chunks.items in
    let long : length c.args.self.now ≡ length ps = sym (ap length c.self.view_is) ∙ length_chunks c.self.inside.parts.items c.self.inside.chunks.items c.self.invariant in
    rw (← c.self.view_is)
    (get_chunks ps cs c.args.place c.index.result.now c.index-2.result.now (there ps c.args.place c.index.result.now (omega (arith, c.requires, long)) c.index.ensures)
    (there cs c.args.place c.index-2.result.now (omega (arith, c.requires, long, c.self.invariant)) c.index-2.ensures))
