use Rattle.std.proofs.Common.{◌≡◌, ◌∷◌, subst, rules}
use Rattle.row_table.specs.Table.{AreShown, changed_each}
use Rattle.row_table.proofs.UpdateLemmas.{index_updated}
use Rattle.row_table.proofs.updates.update_each.Goals as goal

pub loop-number-preserved : goal.loop-number-preserved
loop-number-preserved g c =
    let step : c.loop-number.found.items ≡ (c.in-Some.number, c.in-Some.update) ∷ c.pop_front.new.self.items = search rules in
    let shown = subst (λ ps. AreShown g.U.Keyed.keys c.args.keys.now.entries ps) step c.loop-number.invariant.1 in (
      rw c.update_row.ensures
          (subst (λ ps. changed_each g.U.Update.after ps c.loop-number.rows.entries ≡ changed_each g.U.Update.after c.args.found.items c.args.rows.now.entries) step c.loop-number.invariant.0),
      shown.1,
      rw c.update_row.ensures
          (index_updated g.T.Keyed.keys g.U.Keyed.keys g.U.Update.after g.met.U.Update.brings c.in-Some.update c.in-Some.number c.loop-number.rows.entries c.args.keys.now.entries shown.0 c.loop-number.invariant.2),
    )
