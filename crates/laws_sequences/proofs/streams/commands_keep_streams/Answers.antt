use Rattle.laws_sequences.proofs.StreamsKept.{commands_keep_streams}
use Rattle.laws_sequences.proofs.streams.commands_keep_streams.Goals as goal

pub returns : goal.returns
returns c = commands_keep_streams
