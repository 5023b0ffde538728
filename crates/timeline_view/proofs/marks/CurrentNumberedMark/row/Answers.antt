use Rattle.std.proofs.Common.{ap, arith, of_z, sym, to_z, w64, ◌∙◌, ◌≡◌}
use Rattle.std.proofs.lemmas.Int.{ints}
use Rattle.timeline_view.specs.Marks.{current}
use Rattle.timeline_view.proofs.Places.{not_there, there}
use Rattle.timeline_view.proofs.marks.CurrentNumberedMark.row.Goals as goal

pub returns-in-Some : goal.returns-in-Some
returns-in-Some c =
    let q = c.args.self.now in
    let v : to_z w64 (of_z w64 q.version) ≡ q.version = omega (arith, ints) in
    let t : to_z w64 (of_z w64 q.at) ≡ q.at = omega (arith, ints) in
    (rw (v, t) at c.if_current.ensures) ∙ ap (current q.version q.at) (sym (there q.marks.now c.args.number c.in-Some.mark.now c.in-Some.ensures.lookup.3.0 c.in-Some.ensures.lookup.1))

pub returns-in-None : goal.returns-in-None
returns-in-None c = ap (current c.args.self.now.version c.args.self.now.at) (sym (not_there c.args.self.now.marks.now c.args.number c.in-None.ensures.lookup.3))
