use Rattle.std.proofs.Common.{List, arith, of_z, subst, to_z, w64, ◌≡◌}
use Rattle.std.proofs.lemmas.Int.{ints}
use Rattle.std.proofs.lemmas.List.{drop_all}
use Rattle.iv_span.specs.Extent.{Extent}
use Rattle.timeline_kept.specs.Filling.{IsFilled}
use Rattle.timeline_kept.specs.Shown.{given_over, shown_at}
use Rattle.timeline_kept.proofs.Filling.{fills_next}
use Rattle.timeline_kept.proofs.timeline.fill.Goals as goal

pub loop-span-init : goal.loop-span-init
loop-span-init c =
    let t : to_z w64 (of_z w64 c.args.start) ≡ c.args.start = omega (arith, ints) in
    rw t c.requires.begun

pub loop-span-preserved : goal.loop-span-preserved
loop-span-preserved c =
    let a : to_z w64 (of_z w64 c.start.result) ≡ c.start.result = omega (arith, ints) in
    let b : to_z w64 (of_z w64 c.start-in-loop-span.result) ≡ c.start-in-loop-span.result = omega (arith, ints) in
    let d : to_z w64 (of_z w64 c.end.result) ≡ c.end.result = omega (arith, ints) in
    let e : to_z w64 (of_z w64 c.end-at.result) ≡ c.end-at.result = omega (arith, ints) in
    let old = rw (a, c.start.ensures.value) at c.in_ok-put_between.ensures in
    let new = rw (b, c.start-in-loop-span.ensures.value, d, c.end.ensures.value) at c.in_ok-put_between-2.ensures in
    rw (e, c.end-at.ensures.value)
    (fills_next (to_z w64 (of_z w64 c.args.start)) (given_over c.args.spans.now (shown_at c.args.fresh.now) (shown_at c.args.list.now)) c.args.list.now c.args.fresh.now c.requires.list c.requires.fresh c.args.spans.now c.loop-span.span-index c.span-item.result (to_z w64 c.loop-span.at-bits) c.loop-span.out c.put_between.new.out
    c.put_between-in-loop-span.new.out (omega (arith, c.loop-span-test.true)) c.span-item.is c.loop-span.invariant old new)

pub returns : goal.returns
returns c =
    let t : to_z w64 (of_z w64 c.args.start) ≡ c.args.start = omega (arith, ints) in
    let filled = rw t at c.loop-span.invariant in
    subst (λ (xs : List Extent). IsFilled c.args.start (given_over c.args.spans.now (shown_at c.args.fresh.now) (shown_at c.args.list.now)) c.args.list.now c.args.fresh.now xs (to_z w64 c.loop-span.at-bits) c.loop-span.out)
    (drop_all c.loop-span.span-index c.args.spans.now (omega (arith, c.loop-span-test.false))) filled
