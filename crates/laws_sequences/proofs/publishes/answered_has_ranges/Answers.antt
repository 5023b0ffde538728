use Rattle.laws_sequences.proofs.Numbers.{answered_has_ranges}
use Rattle.laws_sequences.proofs.publishes.answered_has_ranges.Goals as goal

pub returns : goal.returns
returns c = answered_has_ranges
