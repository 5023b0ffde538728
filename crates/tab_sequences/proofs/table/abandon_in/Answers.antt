use Rattle.std.proofs.Common.{◌∙◌}
use Rattle.tab_sequences.proofs.Changed.{all_abandoned}
use Rattle.tab_sequences.proofs.table.abandon_in.Goals as goal

pub returns : goal.returns
returns c = c.change_all.ensures ∙ all_abandoned c.args.source.now c.args.group c.args.from c.args.rows.now
