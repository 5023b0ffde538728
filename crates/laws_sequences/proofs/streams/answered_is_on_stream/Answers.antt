use Rattle.laws_sequences.proofs.StreamsKept.{answered_is_on_stream}
use Rattle.laws_sequences.proofs.streams.answered_is_on_stream.Goals as goal

pub returns : goal.returns
returns c = answered_is_on_stream
