use Rattle.std.proofs.Common.{◌≡◌, None, Some, sym, rules}
use Rattle.row_index.specs.Index.{row_at}
use Rattle.row_table.proofs.ChangeLemmas.{set_changed}
use Rattle.row_table.proofs.UpdateLemmas.{changed_nowhere}
use Rattle.row_table.proofs.updates.update_row.Goals as goal

pub returns-in-Some : goal.returns-in-Some
returns-in-Some g c =
    let found : row_at c.args.rows.now.entries c.args.number ≡ Some c.in-Some.row.now = search rules in
    rw ((c.get_mut.follows.holds c.update.new.row).0, c.update.ensures)
    (set_changed c.args.number (g.U.Update.after c.args.update) c.args.rows.now.entries c.in-Some.row.now found)

pub returns-in_default : goal.returns-in_default
returns-in_default g c =
    let none : row_at c.args.rows.now.entries c.args.number ≡ None = search rules in
    rw c.get_mut.follows.holds-at-none (sym (changed_nowhere c.args.number (g.U.Update.after c.args.update) c.args.rows.now.entries none))
