use Rattle.std.proofs.Common.{arith, of_z, refl, to_z, w64, ◌≡◌}
use Rattle.std.proofs.lemmas.Int.{ints}
use Rattle.timeline_kept.specs.Shown.{given_over, shown_at}
use Rattle.timeline_kept.proofs.Filling.{begins, unfilled, windowed}
use Rattle.timeline_kept.proofs.timeline.window_of.Goals as goal

pub fill-requires-clause-begun : goal.fill-requires-clause-begun
fill-requires-clause-begun c =
    let s : to_z w64 (of_z w64 c.start.result) ≡ c.start.result = omega (arith, ints) in
    let t : to_z w64 (of_z w64 c.left_edge-from.result.1) ≡ c.left_edge-from.result.1 = omega (arith, ints) in
    let left = rw (s, c.start.ensures.value) at c.left_edge-from.ensures in
    rw (t, c.new-parts.ensures)
    (unfilled c.left_edge-from.result.1 (given_over c.args.spans.now (shown_at c.args.fresh.now) (shown_at c.args.list.now)) c.args.list.now c.args.fresh.now c.requires.list c.requires.fresh c.args.spans.now c.requires.apart (begins c.args.first c.args.spans.now c.left_edge-from.result.1 c.requires.first left.low) (λ t. refl))

pub returns-clause-order : goal.returns-clause-order
returns-clause-order c =
    let s : to_z w64 (of_z w64 c.start.result) ≡ c.start.result = omega (arith, ints) in
    let t : to_z w64 (of_z w64 c.left_edge-from.result.1) ≡ c.left_edge-from.result.1 = omega (arith, ints) in
    let a : to_z w64 (of_z w64 c.in_ok-at.at) ≡ c.in_ok-at.at = omega (arith, ints) in
    let e : to_z w64 (of_z w64 c.right_edge-to.result.1) ≡ c.right_edge-to.result.1 = omega (arith, ints) in
    let left = rw (s, c.start.ensures.value) at c.left_edge-from.ensures in
    let filled = rw t at c.in_ok-at.ensures in
    let right = rw a at c.right_edge-to.ensures in
    let rest = rw (a, e) at c.in_ok-put_between.ensures in
    (windowed c.args.spans.now c.args.first c.args.list.now c.args.fresh.now c.fill.new.out c.put_between.new.out c.in_ok-at.at c.left_edge-from.result.1 c.right_edge-to.result.1 c.left_edge-from.result.0 c.right_edge-to.result.0 c.requires.list c.requires.fresh c.requires.apart c.requires.first left filled right rest).1

pub returns-clause-shown : goal.returns-clause-shown
returns-clause-shown c =
    let s : to_z w64 (of_z w64 c.start.result) ≡ c.start.result = omega (arith, ints) in
    let t : to_z w64 (of_z w64 c.left_edge-from.result.1) ≡ c.left_edge-from.result.1 = omega (arith, ints) in
    let a : to_z w64 (of_z w64 c.in_ok-at.at) ≡ c.in_ok-at.at = omega (arith, ints) in
    let e : to_z w64 (of_z w64 c.right_edge-to.result.1) ≡ c.right_edge-to.result.1 = omega (arith, ints) in
    let left = rw (s, c.start.ensures.value) at c.left_edge-from.ensures in
    let filled = rw t at c.in_ok-at.ensures in
    let right = rw a at c.right_edge-to.ensures in
    let rest = rw (a, e) at c.in_ok-put_between.ensures in
    (windowed c.args.spans.now c.args.first c.args.list.now c.args.fresh.now c.fill.new.out c.put_between.new.out c.in_ok-at.at c.left_edge-from.result.1 c.right_edge-to.result.1 c.left_edge-from.result.0 c.right_edge-to.result.0 c.requires.list c.requires.fresh c.requires.apart c.requires.first left filled right rest).0
