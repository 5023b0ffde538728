use Rattle.laws_runs.proofs.RunRules.{runs_answer_readings}
use Rattle.laws_runs.proofs.rules.runs_answer_readings.Goals as goal

pub returns : goal.returns
returns c = runs_answer_readings
