use Rattle.laws_sequences.proofs.StreamsKept.{accepted_is_on_stream}
use Rattle.laws_sequences.proofs.streams.accepted_is_on_stream.Goals as goal

pub returns : goal.returns
returns c = accepted_is_on_stream
