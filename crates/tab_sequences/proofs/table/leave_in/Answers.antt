use Rattle.std.proofs.Common.{◌∙◌}
use Rattle.tab_sequences.proofs.Changed.{all_left}
use Rattle.tab_sequences.proofs.table.leave_in.Goals as goal

pub returns : goal.returns
returns c = c.change_all.ensures ∙ all_left c.args.task.now c.args.rows.now
