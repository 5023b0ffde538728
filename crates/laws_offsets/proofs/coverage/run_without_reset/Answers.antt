use Rattle.laws_offsets.proofs.Runs.{run_without_reset}
use Rattle.laws_offsets.proofs.coverage.run_without_reset.Goals as goal

pub returns : goal.returns
returns c = run_without_reset
