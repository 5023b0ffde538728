use Rattle.laws_runs.proofs.RunRules.{runs_read_offsets_once}
use Rattle.laws_runs.proofs.rules.runs_read_offsets_once.Goals as goal

pub returns : goal.returns
returns c = runs_read_offsets_once
