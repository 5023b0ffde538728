use Rattle.std.proofs.Common.{◌∙◌}
use Rattle.tab_sequences.proofs.Changed.{all_paused_one}
use Rattle.tab_sequences.proofs.table.pause_one_in.Goals as goal

pub returns : goal.returns
returns c = c.change_all.ensures ∙ all_paused_one c.args.name.now c.args.rows.now
