use Rattle.laws_sequences.proofs.Numbers.{sequence_has_one_place}
use Rattle.laws_sequences.proofs.publishes.sequence_has_one_place.Goals as goal

pub returns : goal.returns
returns c = sequence_has_one_place
