use Rattle.laws_runs.proofs.ReachedRuns.{lines_lead_as_commands}
use Rattle.laws_runs.proofs.commands.lines_lead_as_commands.Goals as goal

pub returns : goal.returns
returns c = lines_lead_as_commands
