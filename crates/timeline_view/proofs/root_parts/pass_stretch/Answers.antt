use Rattle.std.proofs.Common.{arith, of_z, to_z, w64, ◌≡◌}
use Rattle.std.proofs.lemmas.Int.{ints}
use Rattle.timeline_view.proofs.Piecing.{enters_stretch, last_built, last_indexed, last_proper, leaves_stretch, no_fewer}
use Rattle.timeline_view.proofs.Places.{got, got_In}
use Rattle.timeline_view.proofs.root_parts.pass_stretch.Goals as goal

pub pass_turns-requires-clause-among : goal.pass_turns-requires-clause-among
pass_turns-requires-clause-among c = got_In c.args.layout.now.stretches.now c.args.place c.stretch_at-stretch.result.now c.stretch_at-stretch.ensures

pub pass_turns-requires-clause-within : goal.pass_turns-requires-clause-within
pass_turns-requires-clause-within c =
    let l = c.args.layout.now in
    let g = got l.stretches.now c.args.place c.stretch_at-stretch.result.now c.stretch_at-stretch.ensures in
    enters_stretch l.stretches.now l.marks.now l.turns.now c.requires.ascend c.args.place c.args.next c.args.keys.now.entries c.args.parts.now.items c.stretch_at-stretch.result.now g.0 g.1 c.requires.between

pub pass_turns-requires-clause-ordered : goal.pass_turns-requires-clause-ordered
pass_turns-requires-clause-ordered c =
    let l = c.args.layout.now in
    let p = c.stretch_at-stretch.result.now in
    let e : to_z w64 (of_z w64 p.end) ≡ p.end = omega (arith, ints) in
    let split = rw e at c.turns_before-to.ensures.split in
    let g = got l.stretches.now c.args.place p c.stretch_at-stretch.ensures in
    no_fewer l.stretches.now l.marks.now l.turns.now c.requires.ascend c.args.place c.args.next c.args.keys.now.entries c.args.parts.now.items p g.0 g.1 c.requires.between c.turns_before-to.result split.1

pub pass_turns-requires-clause-early : goal.pass_turns-requires-clause-early
pass_turns-requires-clause-early c =
    let p = c.stretch_at-stretch.result.now in
    let e : to_z w64 (of_z w64 p.end) ≡ p.end = omega (arith, ints) in
    let split = rw e at c.turns_before-to.ensures.split in
    λ k d lt. split.0 k d (omega arith) lt

pub put_piece-requires-clause-proper : goal.put_piece-requires-clause-proper
put_piece-requires-clause-proper c =
    let l = c.args.layout.now in
    let p = c.stretch_at-stretch.result.now in
    let from = c.in_ok-from.from in
    let e : to_z w64 (of_z w64 p.end) ≡ p.end = omega (arith, ints) in
    let f : to_z w64 (of_z w64 from) ≡ from = omega (arith, ints) in
    let split = rw e at c.turns_before-to.ensures.split in
    rw (f, e) (last_proper l.stretches.now l.marks.now l.turns.now c.requires.turned c.requires.rise p c.turns_before-to.result c.pass_turns.new.keys.entries c.pass_turns.new.parts.items from split.1 c.in_ok-from.ensures)

pub put_piece-requires-clause-indexed : goal.put_piece-requires-clause-indexed
put_piece-requires-clause-indexed c =
    let l = c.args.layout.now in
    let p = c.stretch_at-stretch.result.now in
    let from = c.in_ok-from.from in
    let e : to_z w64 (of_z w64 p.end) ≡ p.end = omega (arith, ints) in
    let f : to_z w64 (of_z w64 from) ≡ from = omega (arith, ints) in
    let v : to_z w64 (of_z w64 p.top.version) ≡ p.top.version = omega (arith, ints) in
    let split = rw e at c.turns_before-to.ensures.split in
    rw (v, f) (last_indexed l.stretches.now l.marks.now l.turns.now c.requires.turned c.requires.rise p c.turns_before-to.result c.pass_turns.new.keys.entries c.pass_turns.new.parts.items from split.1 c.in_ok-from.ensures)

pub returns : goal.returns
returns c =
    let l = c.args.layout.now in
    let p = c.stretch_at-stretch.result.now in
    let from = c.in_ok-from.from in
    let e : to_z w64 (of_z w64 p.end) ≡ p.end = omega (arith, ints) in
    let f : to_z w64 (of_z w64 from) ≡ from = omega (arith, ints) in
    let v : to_z w64 (of_z w64 p.top.version) ≡ p.top.version = omega (arith, ints) in
    let split = rw e at c.turns_before-to.ensures.split in
    let g = got l.stretches.now c.args.place p c.stretch_at-stretch.ensures in
    leaves_stretch l.stretches.now l.marks.now l.turns.now c.requires.ascend c.args.place c.args.next c.args.keys.now.entries c.args.parts.now.items p g.0 g.1 c.requires.between
    c.turns_before-to.result c.pass_turns.new.keys.entries c.put_piece.new.parts.items c.turns_before-to.ensures.bound (λ k d lt. split.0 k d (omega arith) lt) c.in_ok-from.ensures.waiting
    (last_built l.stretches.now l.marks.now l.turns.now c.requires.turned c.requires.rise p c.turns_before-to.result c.pass_turns.new.keys.entries c.pass_turns.new.parts.items from split.1 c.in_ok-from.ensures c.put_piece.new.parts.items (got_In l.stretches.now c.args.place p c.stretch_at-stretch.ensures) (rw (v, f, e) at c.in_ok-put_piece.ensures))
