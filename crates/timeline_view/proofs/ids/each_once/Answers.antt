use Rattle.std.proofs.Common.{arith, ap, length, refl, sym, true, ◌∙◌, ◌<◌}
use Rattle.timeline_view.specs.Chunks.{last_is}
use Rattle.timeline_view.proofs.ChunkIds.{found_before, one_found}
use Rattle.timeline_view.proofs.ids.each_once.Goals.{then-not-last_is+in_ok-twin+in_ok-push, else-not-last_is}
use Rattle.timeline_view.proofs.ids.each_once.Goals as goal

pub loop-id-preserved : goal.loop-id-preserved
loop-id-preserved c =
    let ids = c.args.ids.now in
    let lt : c.loop-id.id-index < length ids = omega (arith, c.loop-id-test.true) in
    elim c.if-not-last_is.branch [
      | then-not-last_is+in_ok-twin+in_ok-push w ↦
          rw (w.found-is, w.in_ok-push.ensures.items, w.in_ok-twin.ensures) (one_found (λ a. true) ids c.requires c.loop-id.found.items c.loop-id.id-index c.id-item.result lt c.id-item.is c.loop-id.invariant refl (ap (λ xs. last_is xs c.id-item.result) (sym c.deref.ensures.value) ∙ sym c.last_is.ensures ∙ w.if-not-last_is.true))
      | else-not-last_is w ↦
          rw w.found-is (found_before (λ a. true) ids c.requires c.loop-id.found.items c.loop-id.id-index c.id-item.result lt c.id-item.is c.loop-id.invariant (ap (λ xs. last_is xs c.id-item.result) (sym c.deref.ensures.value) ∙ sym c.last_is.ensures ∙ w.if-not-last_is.false))
    ]
