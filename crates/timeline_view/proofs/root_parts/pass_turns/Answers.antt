use Rattle.std.proofs.Common.{arith, of_z, subst, to_z, w64, ◌≡◌, ℕ}
use Rattle.std.proofs.lemmas.Int.{ints}
use Rattle.timeline_view.specs.Contents.{Within}
use Rattle.timeline_view.proofs.root_parts.pass_turns.Goals as goal

pub loop-at-init : goal.loop-at-init
loop-at-init c =
    let s : to_z w64 (of_z w64 c.args.stretch.now.start) ≡ c.args.stretch.now.start = omega (arith, ints) in
    (c.requires.ordered, rw s c.requires.within)

pub returns : goal.returns
returns c =
    let l = c.args.layout.now in
    let at : c.loop-at.at ≡ c.args.places.1 = omega (arith, c.loop-at.invariant.0, c.loop-at-test.false) in
    subst (λ (n : ℕ). Within l.stretches.now l.marks.now l.turns.now c.args.stretch.now n c.loop-at.keys.entries c.loop-at.parts.items (to_z w64 c.loop-at.from-bits)) at c.loop-at.invariant.1
