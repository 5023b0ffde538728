use Rattle.laws_shown.proofs.Answering.{answered_is_reading}
use Rattle.laws_shown.proofs.asking.answered_is_reading.Goals as goal

pub returns : goal.returns
returns c = answered_is_reading
