use Rattle.laws_unsound.proofs.LiveChunks.{one_span_row}
use Rattle.laws_unsound.proofs.rules.one_span_row.Goals as goal

pub returns : goal.returns
returns c = one_span_row
