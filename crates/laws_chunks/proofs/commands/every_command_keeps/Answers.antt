use Rattle.laws_chunks.proofs.EveryCommand.{every_command_keeps}
use Rattle.laws_chunks.proofs.commands.every_command_keeps.Goals as goal

pub returns : goal.returns
returns c = every_command_keeps
