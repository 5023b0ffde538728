use Rattle.laws_runs.proofs.RunRules.{runs_split_contents}
use Rattle.laws_runs.proofs.rules.runs_split_contents.Goals as goal

pub returns : goal.returns
returns c = runs_split_contents
