use Rattle.std.proofs.Common.{◌∙◌}
use Rattle.tab_streams.proofs.Zips.{ids_apart, ids_zipped}
use Rattle.timeline_view.proofs.ids.same_ids.Goals as goal

pub returns-then-left-right : goal.returns-then-left-right
returns-then-left-right c = c.each_is_same.ensures ∙ ids_zipped c.args.left.now c.args.right.now c.if-left-right.true

pub returns-else-left-right : goal.returns-else-left-right
returns-else-left-right c = ids_apart c.args.left.now c.args.right.now c.if-left-right.false
