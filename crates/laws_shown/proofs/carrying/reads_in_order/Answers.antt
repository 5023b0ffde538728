use Rattle.laws_shown.proofs.Reading.{reads_in_order}
use Rattle.laws_shown.proofs.carrying.reads_in_order.Goals as goal

pub returns : goal.returns
returns c = reads_in_order
