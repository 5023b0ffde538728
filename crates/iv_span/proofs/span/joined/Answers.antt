use Rattle.std.proofs.Common.{arith, ◌≡◌, ◌≤ℤ◌, ◌<ℤ◌, ◌++◌, ◌∷◌, [], to_z, of_z, w64}
use Rattle.std.proofs.lemmas.Int.{ints}
use Rattle.iv_span.proofs.Sets.{le_from}
use Rattle.iv_span.proofs.Condensing.{starts, grown, ended, whole}
use Rattle.iv_span.proofs.span.joined.Goals.{then-next-last, else-next-last+in_ok-push}
use Rattle.iv_span.proofs.span.joined.Goals as goal

pub loop-next-init : goal.loop-next-init
loop-next-init c = rw (c.first.view_is) (starts _ _ _ c.new-pieces.ensures.items (rw (← c.first.view_is) c.first.invariant) c.requires)

pub loop-next-preserved : goal.loop-next-preserved
loop-next-preserved c =
    let next_whole : c.next-item.result.start <ℤ c.next-item.result.end = rw (← c.next.view_is) c.next.invariant in
    let last_whole : c.loop-next.last.start <ℤ c.loop-next.last.end = rw (← c.last.view_is) c.last.invariant in
    elim c.if-next-last.branch [
      | then-next-last w ↦
          let end_is : to_z w64 (of_z w64 c.next.inside.end) ≡ c.next-item.result.end = rw (← c.next.view_is) (omega (arith, ints)) in
          let near : c.next-item.result.start ≤ℤ c.loop-next.last.end = rw (← c.next.view_is, ← c.last.view_is) (let test = le_from (to_z w64 (of_z w64 c.next.inside.start)) (to_z w64 (of_z w64 c.last.inside.end)) w.if-next-last.true in omega (arith, ints)) in
          rw (w.pieces-is, w.last-is, w.lengthened-last.ensures, end_is)
          (grown _ _ _ _ _ _ c.loop-next.invariant c.loop-next-test.true c.next-item.is near next_whole last_whole)
      | else-next-last+in_ok-push w ↦
          let far : c.loop-next.last.end <ℤ c.next-item.result.start = rw (← c.next.view_is, ← c.last.view_is) (grind (arith, ints)) in
          let pieces : c.if-next-last.pieces.items ≡ c.loop-next.pieces.items ++ c.loop-next.last ∷ [] = rw w.pieces-is (rw c.last.view_is at w.in_ok-push.ensures.items) in
          rw (w.last-is, c.next.view_is)
          (ended _ _ _ _ _ _ _ c.loop-next.invariant c.requires pieces c.loop-next-test.true c.next-item.is far next_whole)
    ]

pub returns : goal.returns
returns c = whole _ _ _ _ _ _ c.loop-next.invariant c.in_ok-push-2.ensures.items (omega arith)
