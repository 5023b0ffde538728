use Rattle.row_table.proofs.PlaceLemmas.{any_place}
use Rattle.tab_segments.proofs.leading.any_entry.Goals as goal

pub returns : goal.returns
returns g c = any_place (g.Q.Query.passes c.args.query.now) c.args.entries.now.items c.has_any.result c.has_any.ensures.sound c.has_any.ensures.all
