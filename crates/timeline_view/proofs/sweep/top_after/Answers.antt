use Rattle.std.proofs.Common.{arith, ap, refl, sym, ◌∙◌, ◌≡◌, length, to_z, of_z, w64, false, true, int_lt, ◌<◌}
use Rattle.std.specs.BinaryHeap.{heap_items}
use Rattle.std.proofs.lemmas.Int.{ints}
use Rattle.timeline_view.proofs.SweepEnds.{keeps_both, popped, top_is_after}
use Rattle.timeline_view.proofs.sweep.top_after.Goals as goal

pub returns-then-now-end-clause-top : goal.returns-then-now-end-clause-top
returns-then-now-end-clause-top c =
    let some : 0 < length (heap_items c.loop-greatest.heap) = omega (arith, c.in-Some.ensures.variant.0 refl) in
    let now_is : to_z w64 (of_z w64 c.args.now) ≡ c.args.now = omega (arith, ints) in
    let end_is : to_z w64 (of_z w64 c.end.result) ≡ c.end.result = omega (arith, ints) in
    let later : int_lt c.args.now c.in-Some.greatest.now.span.end ≡ true = ap (λ t. int_lt c.args.now t) (sym c.end.ensures.value) ∙ rw (now_is, end_is) at c.if-now-end.true in
    top_is_after c.args.now (heap_items c.loop-greatest.heap) c.in-Some.greatest.now (λ d h. h) some c.in-Some.ensures.lookup later (c.in-Some.ensures.greatest c.loop-greatest.invariant.0)

pub loop-greatest-preserved : goal.loop-greatest-preserved
loop-greatest-preserved c =
    let some : 0 < length (heap_items c.loop-greatest.heap) = omega (arith, c.in-Some.ensures.variant.0 refl) in
    let now = to_z w64 (of_z w64 c.args.now) in
    let end_is : to_z w64 (of_z w64 c.end.result) ≡ c.end.result = omega (arith, ints) in
    let gone : int_lt now c.in-Some.greatest.now.span.end ≡ false = ap (λ t. int_lt now t) (sym (end_is ∙ c.end.ensures.value)) ∙ c.if-now-end.false in
    let p = popped _ now (heap_items c.loop-greatest.heap) (heap_items c.pop.new.self) c.pop.result c.in-Some.greatest.now c.loop-greatest.invariant.0 some c.in-Some.ensures.lookup gone c.pop.ensures.top c.pop.ensures.permutation c.pop.ensures.heap_order c.pop.ensures.unchanged in
    (p.0, keeps_both now (heap_items c.args.heap.now) (heap_items c.loop-greatest.heap) (heap_items c.pop.new.self) c.loop-greatest.invariant.1 p.1)
