use Rattle.std.proofs.Common.{ap, rules, ◌∙◌}
use Rattle.laws_unsound.specs.Rows.{zero_unless}
use Rattle.laws_unsound.specs.ShapeRows.{has_parts_left}
use Rattle.limit_rules.proofs.Joining.{counted, joined}
use Rattle.limit_rules.proofs.limit_rows.limit_row.Goals as goal

pub returns : goal.returns
returns c =
    joined _ _ _ _ _ c.lesser.ensures (c.zero_unless-3.ensures ∙ ap zero_unless c.has_room.ensures)
    (joined _ _ _ _ _ c.lesser-row-3.ensures (counted has_parts_left c.args.book.now.chunks c.first_failing.result c.args.starts.chunks _ (search rules) c.requires.at_chunks)
    (joined _ _ _ _ _ c.lesser-row-2.ensures (c.zero_unless-2.ensures ∙ ap zero_unless c.has_clock.ensures)
    (joined _ _ _ _ _ c.lesser-row.ensures (c.zero_unless.ensures ∙ ap zero_unless c.has_last.ensures) c.table_limits-row.ensures)))
