use Rattle.cmd_codec.proofs.Commands.{one_spelling}
use Rattle.cmd_codec.proofs.laws.begins_no_other.Goals as goal

pub returns : goal.returns
returns c = one_spelling
