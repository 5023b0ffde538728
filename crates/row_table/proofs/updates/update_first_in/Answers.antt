use Rattle.std.proofs.Common.{◌≡◌, None, find, sym, ◌∙◌, rules}
use Rattle.row_index.specs.Index.{row_at}
use Rattle.row_table.proofs.EditLemmas.{no_number}
use Rattle.row_table.proofs.ChangeLemmas.{below_changed}
use Rattle.row_table.proofs.ListLemmas.{changed_values_at, none_changed}
use Rattle.row_table.proofs.UpdateLemmas.{index_more, index_updated}
use Rattle.row_table.proofs.updates.update_first_in.Goals as goal

pub returns-in_ok-add_keys-clause-ok : goal.returns-in_ok-add_keys-clause-ok
returns-in_ok-add_keys-clause-ok g c =
    rw c.update_row.ensures
    (changed_values_at (g.U.Query.passes c.args.update) (g.U.Update.after c.args.update) c.args.rows.now.entries c.in-Some.number c.first_at.ensures.ordered (sym c.first_at.ensures.value ∙ c.in-Some.is))

pub returns-in_ok-add_keys-clause-below : goal.returns-in_ok-add_keys-clause-below
returns-in_ok-add_keys-clause-below g c = rw c.update_row.ensures (below_changed c.args.next c.in-Some.number (g.U.Update.after c.args.update) c.args.rows.now.entries c.requires.below)

pub returns-in_ok-add_keys-clause-indexed : goal.returns-in_ok-add_keys-clause-indexed
returns-in_ok-add_keys-clause-indexed g c =
    rw c.update_row.ensures
    (index_updated g.T.Keyed.keys g.U.Keyed.keys g.U.Update.after g.met.U.Update.brings c.args.update c.in-Some.number c.args.rows.now.entries c.add_keys.new.keys.entries c.in_ok-add_keys.ensures.own
    (index_more g.T.Keyed.keys (row_at c.args.rows.now.entries) c.args.keys.now.entries c.add_keys.new.keys.entries c.in_ok-add_keys.ensures.more c.requires.indexed))

pub returns-in_default-clause-ok : goal.returns-in_default-clause-ok
returns-in_default-clause-ok g c =
    let none : c.first_at.result ≡ None = search rules in
    none_changed (g.U.Query.passes c.args.update) (g.U.Update.after c.args.update) c.args.rows.now.entries (no_number (find (λ e. g.U.Query.passes c.args.update e.1) c.args.rows.now.entries) (sym c.first_at.ensures.value ∙ none))
