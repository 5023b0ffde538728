use Rattle.std.proofs.Common.{arith, ap, subst, sym, ◌∙◌, ◌≡◌, [], ◌<◌, ◌≤◌, length, to_z, of_z, w64, true, int_le, get_or}
use Rattle.std.specs.BinaryHeap.{IsHeap, heap_items}
use Rattle.std.proofs.lemmas.Int.{ints}
use Rattle.timeline_view.specs.Sweep.{AreEnds, DoRise, cover_cmp}
use Rattle.timeline_view.proofs.Sweeping.{Sweeping, enters, leaves, le_itself', nothing_swept, not_lt_le', piece_with, piece_without, sweep_starts, swept}
use Rattle.std.specs.List.{slice_get}
use Rattle.timeline_view.proofs.Places.{first_none, first_some}
use Rattle.timeline_view.proofs.sweep.stretches.Goals.{then-now-event, in-Some-top_after+in_ok-put_stretch, in_default-top_after, else-now-event, then-event+in_ok-push, else-event}
use Rattle.timeline_view.proofs.sweep.stretches.Goals as goal

pub returns-in_default : goal.returns-in_default
returns-in_default c = nothing_swept c.args.covers.now c.in_ok-events.events.items c.in_ok-events.ensures.all c.in_ok-events.ensures.rise (subst (λ xs. length xs ≤ 0) c.deref.ensures.value (first_none c.deref.result.now c.in_default.ensures.value)) c.new-stretches.result.items c.new-stretches.ensures.items

pub loop-event-init : goal.loop-event-init
loop-event-init c =
    let first_is : to_z w64 (of_z w64 c.in-Some.first.now.at) ≡ c.in-Some.first.now.at = omega (arith, ints) in
    let es = c.deref-event-items.result.now in
    let ends : AreEnds c.args.covers.now es = subst (λ xs. AreEnds c.args.covers.now xs) (sym c.deref-event-items.ensures.value) c.in_ok-events.ensures.all in
    let rise : DoRise es = subst DoRise (sym c.deref-event-items.ensures.value) c.in_ok-events.ensures.rise in
    let some : (0 < length es) × (c.in-Some.first.now ≡ get_or es 0 c.in-Some.first.now) = first_some es c.in-Some.first.now (c.in-Some.ensures.value ∙ ap (λ xs. slice_get xs 0) (c.deref.ensures.value ∙ sym c.deref-event-items.ensures.value)) in
    (c.new-heap.ensures.heap_order, rw (c.new-heap.ensures.items, c.new-stretches.ensures.items, first_is) (sweep_starts c.args.covers.now es ends rise c.in-Some.first.now some.0 some.1))

pub loop-event-preserved : goal.loop-event-preserved
loop-event-preserved c =
    let es = c.deref-event-items.result.now in
    let e = c.event-item.result in
    let ends : AreEnds c.args.covers.now es = subst (λ xs. AreEnds c.args.covers.now xs) (sym c.deref-event-items.ensures.value) c.in_ok-events.ensures.all in
    let rise : DoRise es = subst DoRise (sym c.deref-event-items.ensures.value) c.in_ok-events.ensures.rise in
    let lt : c.loop-event.event-index < length es = omega (arith, c.loop-event-test.true) in
    let now1 = to_z w64 c.if-now-event.now-bits in
    let at_is : to_z w64 (of_z w64 c.event-item.result.at) ≡ c.event-item.result.at = omega (arith, ints) in
    let one : IsHeap cover_cmp (heap_items c.if-now-event.heap) × Sweeping c.args.covers.now es (heap_items c.if-now-event.heap) c.if-now-event.stretches.items now1 c.loop-event.event-index × (int_le c.event-item.result.at now1 ≡ true) =
    elim c.if-now-event.branch [
      | then-now-event w ↦ elim w.match-top_after.branch [
        | in-Some-top_after+in_ok-put_stretch v ↦
            let p = piece_with c.args.covers.now es ends rise (heap_items c.loop-event.heap) (heap_items w.top_after.new.heap) c.loop-event.stretches.items (to_z w64 c.loop-event.now-bits) c.loop-event.event-index e lt c.event-item.is c.loop-event.invariant.1 (rw at_is at w.if-now-event.true) v.in-Some-top_after.ensures.kept v.in-Some-top_after.top v.in-Some-top_after.ensures.top in
            rw (w.heap-is, w.stretches-is, v.stretches-is, w.now-is) (v.in-Some-top_after.ensures.ordered, rw (v.in_ok-put_stretch.ensures, at_is) p, rw at_is (le_itself' c.event-item.result.at))
        | in_default-top_after v ↦
            let p = piece_without c.args.covers.now es ends rise (heap_items c.loop-event.heap) (heap_items w.top_after.new.heap) c.loop-event.stretches.items (to_z w64 c.loop-event.now-bits) c.loop-event.event-index e lt c.event-item.is c.loop-event.invariant.1 (rw at_is at w.if-now-event.true) v.in_default-top_after.ensures.kept v.in_default-top_after.ensures.none in
            rw (w.heap-is, w.stretches-is, v.stretches-is, w.now-is) (v.in_default-top_after.ensures.ordered, rw at_is p, rw at_is (le_itself' c.event-item.result.at))
      ]
      | else-now-event w ↦ rw (w.heap-is, w.stretches-is, w.now-is) (c.loop-event.invariant.0, c.loop-event.invariant.1, not_lt_le' (to_z w64 c.loop-event.now-bits) c.event-item.result.at (rw at_is at w.if-now-event.false))
    ] in
    elim c.if-event.branch [
      | then-event+in_ok-push w ↦ rw w.heap-is (w.in_ok-push.ensures.heap_order one.0, enters c.args.covers.now es ends rise (heap_items c.if-now-event.heap) (heap_items w.push.new.self) c.if-now-event.stretches.items now1 c.loop-event.event-index e lt c.event-item.is one.1 one.2 w.if-event.true w.in_ok-push.ensures.permutation)
      | else-event w ↦ rw w.heap-is (one.0, leaves c.args.covers.now es ends rise (heap_items c.if-now-event.heap) [] c.if-now-event.stretches.items now1 c.loop-event.event-index e lt c.event-item.is one.1 one.2 w.if-event.false)
    ]

pub returns : goal.returns
returns c =
    let ends : AreEnds c.args.covers.now c.deref-event-items.result.now = subst (λ xs. AreEnds c.args.covers.now xs) (sym c.deref-event-items.ensures.value) c.in_ok-events.ensures.all in
    let rise : DoRise c.deref-event-items.result.now = subst DoRise (sym c.deref-event-items.ensures.value) c.in_ok-events.ensures.rise in
    swept c.args.covers.now c.deref-event-items.result.now ends rise _ _ _ _ (omega (arith, c.loop-event-test.false)) c.loop-event.invariant.1
