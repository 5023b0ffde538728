use Rattle.laws_sequences.proofs.Numbers.{answered_is_committed}
use Rattle.laws_sequences.proofs.publishes.answered_is_committed.Goals as goal

pub returns : goal.returns
returns c = answered_is_committed
