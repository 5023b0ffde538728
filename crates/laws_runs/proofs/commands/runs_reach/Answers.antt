use Rattle.laws_runs.proofs.ReachedRuns.{runs_reach}
use Rattle.laws_runs.proofs.commands.runs_reach.Goals as goal

pub returns : goal.returns
returns c = runs_reach
