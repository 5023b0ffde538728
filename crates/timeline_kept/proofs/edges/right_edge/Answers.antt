use Rattle.std.proofs.Common.{arith, of_z, subst, to_z, w64, ◌≡◌, ℕ, ◌+◌, ◌-◌, sym}
use Rattle.std.specs.Int.{int_max}
use Rattle.std.proofs.lemmas.Int.{ints}
use Rattle.timeline_kept.specs.Edges.{IsRightEdge, Splits, starts_by}
use Rattle.timeline_kept.specs.PartLists.{with_chunk}
use Rattle.timeline_kept.proofs.Order.{right_before, right_of}
use Rattle.timeline_kept.proofs.edges.right_edge.Goals as goal

pub returns-then-place-eq0 : goal.returns-then-place-eq0
returns-then-place-eq0 c =
    let t : to_z w64 (of_z w64 c.args.at) ≡ c.args.at = omega (arith, ints) in
    let split = rw (t, c.if-place-eq0.true) at c.count_started-place.ensures in
    rw (t, c.if-place-eq0.true) (right_before c.args.list.now c.args.at split)

pub returns : goal.returns
returns c =
    let t : to_z w64 (of_z w64 c.args.at) ≡ c.args.at = omega (arith, ints) in
    let s : to_z w64 (of_z w64 c.end.result) ≡ c.end.result = omega (arith, ints) in
    let m : to_z w64 (of_z w64 c.max.result) ≡ c.max.result = omega (arith, ints) in
    let k : (c.count_started-place.result - 1) + 1 ≡ c.count_started-place.result = grind (arith, c.if-place-eq0.false) in
    let split = rw t at c.count_started-place.ensures in
    let greatest = rw (s, t, c.end.ensures.value) at c.max.ensures.value in
    let p = with_chunk c.part-chunk.result.0.now c.part-chunk.result.1 in
    rw (m, greatest) (subst (λ (n : ℕ). IsRightEdge c.args.list.now c.args.at n (int_max p.span.end c.args.at)) k (right_of c.args.list.now c.requires c.args.at (c.count_started-place.result - 1) p (subst (λ (n : ℕ). Splits (starts_by c.args.at) c.args.list.now n) (sym k) split) c.part-chunk.ensures))
