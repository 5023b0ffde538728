use Rattle.std.proofs.Common.{arith}
use Rattle.timeline_view.proofs.Piecing.{all_built, starts}
use Rattle.timeline_view.proofs.root_parts.parts_of.Goals as goal

pub loop-place-init : goal.loop-place-init
loop-place-init c =
    let l = c.args.layout.now in
    starts l.stretches.now l.marks.now l.turns.now c.requires.ascend c.new-keys.result.entries c.new-parts.result.items c.new-parts.ensures.items

pub returns : goal.returns
returns c =
    let l = c.args.layout.now in
    all_built l.stretches.now l.marks.now l.turns.now c.requires.ascend c.loop-place.place c.loop-place.next c.loop-place.keys.entries c.loop-place.parts.items (omega (arith, c.loop-place-test.false)) c.loop-place.invariant
