use Rattle.laws_locks.proofs.WholeShape.{shape_has_lock_shape}
use Rattle.laws_locks.proofs.moves.shape_has_lock_shape.Goals as goal

pub returns : goal.returns
returns c = shape_has_lock_shape
