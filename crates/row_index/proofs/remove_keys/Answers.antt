use Rattle.std.proofs.Common.{◌≡◌, ℕ, ℤ, ◌<◌, Some, slice_get, rules, inl, inr, sym, ◌∙◌, subst}
use Rattle.row_index.specs.Index.{IsKey}
use Rattle.row_index.proofs.IndexLemmas.{fewer_after, gone_after, less_after, place_of, split_below}
use Rattle.row_index.proofs.remove_keys.Goals as goal

pub loop-at-preserved : goal.loop-at-preserved
loop-at-preserved g c =
    let key : (ℕ × ℤ) × ℕ = (c.key.result, c.args.number) in
    let fewer = fewer_after c.loop-at.keys.entries c.remove.new.self.entries key c.remove.ensures in (
      λ k apart old. less_after c.loop-at.keys.entries c.remove.new.self.entries c.key.result c.args.number c.remove.ensures k apart (c.loop-at.invariant.0 k apart old),
      λ i k lt found there.
          elim (split_below i c.loop-at.at lt) [
            | inl before ↦ c.loop-at.invariant.1 i k before found (fewer (k, c.args.number) there)
            | inr here ↦
                (let found' : slice_get (g.T.Keyed.keys c.args.row.now) c.loop-at.at ≡ Some k = rw here at found in
                let same : Some c.key.result ≡ Some k = sym c.key.ensures ∙ found' in
                let k' : k ≡ c.key.result = cc in
                gone_after c.loop-at.keys.entries c.remove.new.self.entries key c.remove.ensures (subst (λ x. IsKey c.remove.new.self.entries (x, c.args.number)) k' there))
          ],
    )

pub returns-clause-gone : goal.returns-clause-gone
returns-clause-gone g c =
    λ k there. let p = place_of k (g.T.Keyed.keys c.args.row.now) there in let within : p.0 < c.loop-at.at = search rules in c.loop-at.invariant.1 p.0 k within p.2
