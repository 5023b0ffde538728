use Rattle.row_table.proofs.PlaceLemmas.{any_place}
use Rattle.row_table.proofs.list.RowList.any.Goals as goal

pub returns : goal.returns
returns g c = rw (← c.self.view_is) (any_place (g.Q.Query.passes c.args.query.now) c.self.inside.rows.items c.has_any.result c.has_any.ensures.sound c.has_any.ensures.all)
