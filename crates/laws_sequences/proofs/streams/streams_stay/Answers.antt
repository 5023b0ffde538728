use Rattle.laws_sequences.proofs.StreamsKept.{streams_stay}
use Rattle.laws_sequences.proofs.streams.streams_stay.Goals as goal

pub returns : goal.returns
returns c = streams_stay
