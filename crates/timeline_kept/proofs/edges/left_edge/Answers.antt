use Rattle.std.proofs.Common.{arith, of_z, to_z, w64, ◌≡◌}
use Rattle.std.proofs.lemmas.Int.{ints}
use Rattle.timeline_kept.specs.PartLists.{with_chunk}
use Rattle.timeline_kept.proofs.Order.{left_behind, left_of}
use Rattle.timeline_kept.proofs.edges.left_edge.Goals as goal

pub returns-then-len-place : goal.returns-then-len-place
returns-then-len-place c =
    let t : to_z w64 (of_z w64 c.args.at) ≡ c.args.at = omega (arith, ints) in
    let split = rw t at c.count_ended-place.ensures in
    rw t (left_behind c.args.list.now c.requires c.args.at c.count_ended-place.result split (omega (arith, c.if-len-place.true, c.len.ensures)))

pub returns : goal.returns
returns c =
    let t : to_z w64 (of_z w64 c.args.at) ≡ c.args.at = omega (arith, ints) in
    let s : to_z w64 (of_z w64 c.start.result) ≡ c.start.result = omega (arith, ints) in
    let m : to_z w64 (of_z w64 c.min.result) ≡ c.min.result = omega (arith, ints) in
    let split = rw t at c.count_ended-place.ensures in
    let least = rw (s, t, c.start.ensures.value) at c.min.ensures.value in
    rw (m, least) (left_of c.args.list.now c.requires c.args.at c.count_ended-place.result (with_chunk c.part-chunk.result.0.now c.part-chunk.result.1) split c.part-chunk.ensures)
