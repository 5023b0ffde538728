use Rattle.std.proofs.Common.{ap, arith, length, sym, ◌∙◌, ◌≡◌}
use Rattle.timeline_kept.proofs.Placing.{chunks_replaced, length_chunks}
use Rattle.timeline_kept.proofs.part_list.PartList.replace.Goals as goal

pub turn-requires-clause-within : goal.turn-requires-clause-within
turn-requires-clause-within c =
    let long : length c.args.self.now ≡ length c.self.inside.parts.items = sym (ap length c.self.view_is) ∙ length_chunks c.self.inside.parts.items c.self.inside.chunks.items c.self.invariant in
    omega (arith, c.requires.bound, long, c.len-len.ensures)

pub turn-requires-in-Ok-clause-within : goal.turn-requires-in-Ok-clause-within
turn-requires-in-Ok-clause-within c =
    let long : length c.args.self.now ≡ length c.self.inside.parts.items = sym (ap length c.self.view_is) ∙ length_chunks c.self.inside.parts.items c.self.inside.chunks.items c.self.invariant in
    omega (arith, c.requires.bound, long, c.len-len.ensures)

pub returns-in-Ok-clause-ok : goal.returns-in-Ok-clause-ok
returns-in-Ok-clause-ok c =
    let ps = c.self.inside.parts.items in
    let cs = c.self.inside.chunks.items in
    let qs = c.other.inside.parts.items in
    let ds = c.other.inside.chunks.items in
    let long : length c.args.self.now ≡ length ps = sym (ap length c.self.view_is) ∙ length_chunks ps cs c.self.invariant in
    let here : length ps ≡ c.len-len.result = omega (arith, c.len-len.ensures) in
    rw (← c.self.view_is, ← c.other.view_is)
    (chunks_replaced ps c.turn.new.items.items qs cs c.turn-in-Ok.new.items.items ds c.args.from c.args.to c.self.invariant c.other.invariant (omega (arith, c.requires.order, c.requires.bound, long)) (c.turn.ensures ps qs c.in-Ok.ensures.items here)
    (c.turn-in-Ok.ensures cs ds c.in_ok-append.ensures.items (sym c.self.invariant ∙ here)))
