use Rattle.laws_sequences.proofs.ReachedBooks.{reached_sequence_has_one_number}
use Rattle.laws_sequences.proofs.reached.reached_sequence_has_one_number.Goals as goal

pub returns : goal.returns
returns c = reached_sequence_has_one_number
