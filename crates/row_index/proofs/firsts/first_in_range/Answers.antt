use Rattle.std.proofs.Common.{◌≡◌, ◌+ℤ◌, ℕ, Some, None, arith, of_z, pos, refl, rules, subst, sym, to_z, w64}
use Rattle.row_index.specs.Index.{ComeFrom, HasAll, IsUpTo}
use Rattle.row_index.proofs.FirstLemmas.{least_after, least_none, lesser_sound}
use Rattle.row_index.proofs.firsts.first_in_range.Goals as goal

pub loop-place-preserved : goal.loop-place-preserved
loop-place-preserved g c =
    let rows = g.R.Numbered.row_of c.args.rows.now in
    let test = g.Q.Query.passes c.args.query.now in
    let low = c.args.range.0.1 in
    let ks = c.args.keys.now.entries in
    let place = to_z w64 c.loop-place.place-bits in
    let end : to_z w64 (of_z w64 c.args.range.1) ≡ c.args.range.1 = search rules in
    let next : to_z w64 (of_z w64 (to_z w64 (of_z w64 c.in-Some.key.1) +ℤ pos 1)) ≡ c.in-Some.key.1 +ℤ pos 1 = search rules in
    let from = subst (λ e. ComeFrom rows test ((c.args.range.0.0, place), e) ks (Some (c.in-Some.key, c.in-Some.number))) end c.in-Some.ensures.first in
    let up : (s : ℕ) → IsUpTo c.loop-place.least s → IsUpTo (Some c.lesser.result) s = λ s is. (c.lesser.result, refl, omega (arith, c.lesser.ensures.kept is.0 is.1, is.2)) in (
      (λ b best. up b (c.loop-place.invariant.0 b best)),
      (λ sound b is. lesser_sound rows test c.args.range.0.0 low c.args.keys.now.entries c.loop-place.least c.lesser.result c.in-Some.number b (c.loop-place.invariant.1 sound) c.in-Some.ensures.sound c.lesser.ensures.one is),
      subst (λ p. HasAll (λ s r. IsUpTo (Some c.lesser.result) s) rows test ((c.args.range.0.0, low), p) ks) (sym next)
          (least_after rows test c.args.range.0.0 low ks c.loop-place.least (Some c.lesser.result) place c.args.range.1 (c.in-Some.key, c.in-Some.number) from (search rules) up (c.lesser.result, refl, c.lesser.ensures.low)
          c.loop-place.invariant.2),
    )

pub returns-in-None-clause-all : goal.returns-in-None-clause-all
returns-in-None-clause-all g c =
    let rows = g.R.Numbered.row_of c.args.rows.now in
    let test = g.Q.Query.passes c.args.query.now in
    let ks = c.args.keys.now.entries in
    let place = to_z w64 c.loop-place.place-bits in
    let end : to_z w64 (of_z w64 c.args.range.1) ≡ c.args.range.1 = search rules in
    let from = subst (λ e. ComeFrom rows test ((c.args.range.0.0, place), e) ks None) end c.in-None.ensures.first in
    least_none rows test c.args.range.0.0 c.args.range.0.1 c.args.keys.now.entries c.loop-place.least place c.args.range.1 from c.loop-place.invariant.2
