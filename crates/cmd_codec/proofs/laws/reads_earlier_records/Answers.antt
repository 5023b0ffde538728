use Rattle.cmd_codec.proofs.EarlierBytes.{same_commands}
use Rattle.cmd_codec.proofs.laws.reads_earlier_records.Goals as goal

pub returns : goal.returns
returns c = same_commands
