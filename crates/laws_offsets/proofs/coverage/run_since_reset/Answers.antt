use Rattle.laws_offsets.proofs.Runs.{run_since_reset}
use Rattle.laws_offsets.proofs.coverage.run_since_reset.Goals as goal

pub returns : goal.returns
returns c = run_since_reset
