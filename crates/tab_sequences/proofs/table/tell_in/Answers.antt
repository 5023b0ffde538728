use Rattle.std.proofs.Common.{◌∙◌}
use Rattle.tab_sequences.proofs.Changed.{all_told}
use Rattle.tab_sequences.proofs.Results.{OnOk_then}
use Rattle.tab_sequences.proofs.table.tell_in.Goals as goal

pub returns-clause-ok : goal.returns-clause-ok
returns-clause-ok c = OnOk_then c.update_first.result c.update_first.ensures.ok (λ e. e ∙ all_told c.args.name.now c.args.reports c.args.closing c.args.rows.now c.requires)
