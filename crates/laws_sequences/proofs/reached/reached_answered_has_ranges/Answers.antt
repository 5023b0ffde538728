use Rattle.laws_sequences.proofs.ReachedBooks.{reached_answered_has_ranges}
use Rattle.laws_sequences.proofs.reached.reached_answered_has_ranges.Goals as goal

pub returns : goal.returns
returns c = reached_answered_has_ranges
