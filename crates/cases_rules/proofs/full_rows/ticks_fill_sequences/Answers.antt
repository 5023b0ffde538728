use Rattle.cases_rules.proofs.FullTableLaws.{ticks_fill_sequences}
use Rattle.cases_rules.proofs.full_rows.ticks_fill_sequences.Goals as goal

pub returns : goal.returns
returns c = ticks_fill_sequences
