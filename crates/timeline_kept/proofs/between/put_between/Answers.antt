use Rattle.std.proofs.Common.{arith, ap, of_z, sym, to_z, w64, ◌∙◌, ◌≡◌}
use Rattle.std.proofs.lemmas.Int.{ints}
use Rattle.timeline_kept.specs.PartLists.{parts_between, put_parts}
use Rattle.timeline_kept.proofs.Placing.{first_between, item_at, last_between, more_between}
use Rattle.timeline_kept.proofs.between.put_between.Goals as goal

pub loop-place-init : goal.loop-place-init
loop-place-init c = ap (put_parts c.args.out.now) (first_between (to_z w64 (of_z w64 c.args.from)) (to_z w64 (of_z w64 c.args.to)) c.args.list.now c.count_ended-place.result c.count_ended-place.ensures)

pub put_clipped-requires : goal.put_clipped-requires
put_clipped-requires c = omega (arith, c.count_started-last.ensures.bound, c.loop-place-test.true)

pub loop-place-preserved : goal.loop-place-preserved
loop-place-preserved c =
    let ps = c.args.list.now in
    let p = item_at ps c.loop-place.place (omega (arith, c.count_started-last.ensures.bound, c.loop-place-test.true)) in
    more_between (to_z w64 (of_z w64 c.args.from)) (to_z w64 (of_z w64 c.args.to)) ps c.loop-place.place p.0 c.loop-place.out c.put_clipped.new.out p.1 (c.in_ok-put_clipped.ensures p.0 p.1)
    ∙ c.loop-place.invariant

pub returns : goal.returns
returns c =
    let f : to_z w64 (of_z w64 c.args.from) ≡ c.args.from = omega (arith, ints) in
    let t : to_z w64 (of_z w64 c.args.to) ≡ c.args.to = omega (arith, ints) in
    let rest = last_between (to_z w64 (of_z w64 c.args.from)) (to_z w64 (of_z w64 c.args.to)) c.args.list.now c.loop-place.place c.count_started-last.result c.count_started-last.ensures (omega (arith, c.loop-place-test.false)) in
    let all : c.loop-place.out ≡ put_parts c.args.out.now (parts_between (to_z w64 (of_z w64 c.args.from)) (to_z w64 (of_z w64 c.args.to)) c.args.list.now) = sym (ap (put_parts c.loop-place.out) rest) ∙ c.loop-place.invariant in
    rw (f, t) at all
