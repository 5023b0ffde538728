use Rattle.std.proofs.Common.{◌∙◌}
use Rattle.timeline_view.proofs.Reading.{insert_is}
use Rattle.timeline_view.proofs.replacing.put_root.Goals as goal

pub returns-in_ok-insert : goal.returns-in_ok-insert
returns-in_ok-insert c = rw c.if-is_read.true (c.in_ok-insert.ensures.keys ∙ insert_is c.args.row.root c.args.roots.now.keys)
