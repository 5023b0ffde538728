use Rattle.laws_offsets.proofs.ShapeKept.{reached_have_offset_shape}
use Rattle.laws_offsets.proofs.shape.reached_have_offset_shape.Goals as goal

pub returns : goal.returns
returns c = reached_have_offset_shape
