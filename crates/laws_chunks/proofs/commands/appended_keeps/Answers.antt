use Rattle.laws_chunks.proofs.AppendCommand.{appended_keeps}
use Rattle.laws_chunks.proofs.commands.appended_keeps.Goals as goal

pub returns : goal.returns
returns c = appended_keeps
