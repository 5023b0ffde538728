use Rattle.laws_snapshots.proofs.Joined.{every_command_keeps_bytes}
use Rattle.laws_snapshots.proofs.bytes.every_command_keeps_bytes.Goals as goal

pub returns : goal.returns
returns c = every_command_keeps_bytes
