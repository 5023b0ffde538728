use Rattle.laws_offsets.proofs.ShapeKept.{offset_shape_stays}
use Rattle.laws_offsets.proofs.shape.offset_shape_stays.Goals as goal

pub returns : goal.returns
returns c = offset_shape_stays
