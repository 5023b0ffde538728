use Rattle.std.proofs.Common.{List, arith, of_z, subst, to_z, true, w64, ◌≡◌}
use Rattle.std.proofs.lemmas.Int.{ints}
use Rattle.seg_names.specs.declared.seg_id.SegId.{SegId}
use Rattle.book_rows.specs.Lists.{In}
use Rattle.timeline_view.specs.Chunks.{AreIdsIn}
use Rattle.timeline_view.proofs.Rooting.{roots_found}
use Rattle.timeline_view.proofs.marks.roots_of.Goals as goal

pub returns : goal.returns
returns c =
    let v : to_z w64 (of_z w64 c.args.version) ≡ c.args.version = omega (arith, ints) in
    let t : to_z w64 (of_z w64 c.args.at) ≡ c.args.at = omega (arith, ints) in
    let met = c.walk.new.keeper in
    let found = roots_found c.args.marks.now (to_z w64 (of_z w64 c.args.version)) (to_z w64 (of_z w64 c.args.at)) met.met.items c.sort.new.self.items c.in_ok-found.found.items met.failed c.if-roots.false
    (c.walk.ensures.sound (λ a i. absurd (subst (λ (xs : List SegId). In a xs) c.new.ensures.items i))) c.walk.ensures.all c.sort.ensures.permutation
    (subst (λ (xs : List SegId). AreIdsIn (λ a. true) xs c.in_ok-found.found.items) c.deref.ensures.value c.in_ok-found.ensures) in
    rw (v, t) at found
