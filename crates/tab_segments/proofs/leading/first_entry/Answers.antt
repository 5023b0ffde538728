use Rattle.std.proofs.Common.{◌∙◌}
use Rattle.row_table.proofs.PlaceLemmas.{first_place, no_place}
use Rattle.tab_segments.proofs.leading.first_entry.Goals as goal

pub returns-in-Some : goal.returns-in-Some
returns-in-Some g c =
    c.row.ensures
    ∙ first_place (g.Q.Query.passes c.args.query.now) c.args.entries.now.items c.first_number.result c.in-Some.number c.in-Some.is c.first_number.ensures.sound c.first_number.ensures.least

pub returns-in-None : goal.returns-in-None
returns-in-None g c = no_place (g.Q.Query.passes c.args.query.now) c.args.entries.now.items c.first_number.result c.in-None.is c.first_number.ensures.least
