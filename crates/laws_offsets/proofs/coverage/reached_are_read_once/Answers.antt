use Rattle.laws_offsets.proofs.Reaching.{reached_are_read_once}
use Rattle.laws_offsets.proofs.coverage.reached_are_read_once.Goals as goal

pub returns : goal.returns
returns c = reached_are_read_once
