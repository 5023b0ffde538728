use Rattle.std.proofs.Common.{ap, find, sym, ◌∙◌}
use Rattle.std.specs.Option.{option_map}
use Rattle.row_search.proofs.Walking.{find_map}
use Rattle.row_search.proofs.index.Rows.first.Goals as goal

pub returns : goal.returns
returns g c =
    c.lent_row.ensures
    ∙ (ap (λ o. option_map (λ e. e.row.now) o) c.first.ensures
    ∙ (sym (find_map (g.K.Seeking.holds c.args.seeking.now c.args.asked.now) (λ e. e.row.now) c.self.inside.rows) ∙ ap (λ xs. find (g.K.Seeking.holds c.args.seeking.now c.args.asked.now) xs) c.self.view_is))
