use Rattle.laws_offsets.proofs.Reaching.{tiles_stay}
use Rattle.laws_offsets.proofs.tiling.tiles_stay.Goals as goal

pub returns : goal.returns
returns c = tiles_stay
