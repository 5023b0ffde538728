use Rattle.laws_runs.proofs.RunRules.{runs_have_compatible_locks}
use Rattle.laws_runs.proofs.rules.runs_have_compatible_locks.Goals as goal

pub returns : goal.returns
returns c = runs_have_compatible_locks
