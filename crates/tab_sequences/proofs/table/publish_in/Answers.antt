use Rattle.std.proofs.Common.{◌∙◌}
use Rattle.tab_sequences.proofs.Changed.{all_published}
use Rattle.tab_sequences.proofs.table.publish_in.Goals as goal

pub returns : goal.returns
returns c = c.change_all.ensures ∙ all_published c.args.name.now c.args.rows.now
