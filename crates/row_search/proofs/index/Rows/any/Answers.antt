use Rattle.std.proofs.Common.{ap, sym, ◌∙◌}
use Rattle.std.specs.List.{list_any}
use Rattle.row_search.proofs.Walking.{any_map}
use Rattle.row_search.proofs.index.Rows.any.Goals as goal

pub returns : goal.returns
returns g c =
    c.any.ensures
    ∙ (sym (any_map (g.K.Seeking.holds c.args.seeking.now c.args.asked.now) (λ e. e.row.now) c.self.inside.rows) ∙ ap (λ xs. list_any (g.K.Seeking.holds c.args.seeking.now c.args.asked.now) xs) c.self.view_is)
