use Rattle.laws_offsets.proofs.ShapeKept.{shape_has_offset_shape}
use Rattle.laws_offsets.proofs.shape.shape_has_offset_shape.Goals as goal

pub returns : goal.returns
returns c = shape_has_offset_shape
