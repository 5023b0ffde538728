use Rattle.laws_runs.proofs.RunRules.{runs_keep_sequences_in_line}
use Rattle.laws_runs.proofs.rules.runs_keep_sequences_in_line.Goals as goal

pub returns : goal.returns
returns c = runs_keep_sequences_in_line
