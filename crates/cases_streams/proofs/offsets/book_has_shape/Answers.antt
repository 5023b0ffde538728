use Rattle.cases_streams.proofs.WorkedOffsets.{book_has_shape}
use Rattle.cases_streams.proofs.offsets.book_has_shape.Goals as goal

pub returns : goal.returns
returns c = book_has_shape
