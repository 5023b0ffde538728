use Rattle.cmd_codec.proofs.Lengths.{spelling_length}
use Rattle.cmd_codec.proofs.laws.has_length.Goals as goal

pub returns : goal.returns
returns c = spelling_length
