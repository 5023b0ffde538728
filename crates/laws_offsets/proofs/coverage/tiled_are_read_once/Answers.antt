use Rattle.laws_offsets.proofs.Reaching.{tiled_are_read_once}
use Rattle.laws_offsets.proofs.coverage.tiled_are_read_once.Goals as goal

pub returns : goal.returns
returns c = tiled_are_read_once
