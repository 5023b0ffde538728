use Rattle.std.proofs.Common.{◌≡◌, ◌++◌, ◌∷◌, [], None, ap, sym, ◌∙◌, rules}
use Rattle.row_index.specs.Index.{row_at}
use Rattle.row_table.proofs.UpdateLemmas.{index_more, placed_nowhere, placed_there, shown_push}
use Rattle.row_table.proofs.updates.place_updates.Goals as goal

pub loop-update-preserved-in-Continue-branch-2 : goal.loop-update-preserved-in-Continue-branch-2
loop-update-preserved-in-Continue-branch-2 g c =
    let pushed : c.push_back.new.self.items ≡ c.loop-update.found.items ++ (c.in-Some-first_at.number, c.in-Some.update) ∷ [] = search rules in (
      pushed
          ∙ ap (λ ps. ps ++ (c.in-Some-first_at.number, c.in-Some.update) ∷ []) c.loop-update.invariant.0
          ∙ placed_there g.U.Query.passes c.args.rows.now.entries c.loop-update.yielded c.in-Some.update c.in-Some-first_at.number (sym c.first_at.ensures.value ∙ c.in-Some-first_at.is),
      rw pushed (shown_push g.U.Keyed.keys c.loop-update.keys.entries c.add_keys.new.keys.entries c.loop-update.found.items (c.in-Some-first_at.number, c.in-Some.update) c.in_ok-add_keys.ensures.more c.in_ok-add_keys.ensures.own c.loop-update.invariant.1),
      index_more g.T.Keyed.keys (row_at c.args.rows.now.entries) c.loop-update.keys.entries c.add_keys.new.keys.entries c.in_ok-add_keys.ensures.more c.loop-update.invariant.2,
    )

pub loop-update-preserved : goal.loop-update-preserved
loop-update-preserved g c =
    let none : c.first_at.result ≡ None = search rules in (
      c.loop-update.invariant.0 ∙ placed_nowhere g.U.Query.passes c.args.rows.now.entries c.loop-update.yielded c.in-Some.update (sym c.first_at.ensures.value ∙ none),
      c.loop-update.invariant.1,
      c.loop-update.invariant.2,
    )
