use Rattle.laws_chunks.proofs.ReplaceCommand.{replaced_keeps}
use Rattle.laws_chunks.proofs.commands.replaced_keeps.Goals as goal

pub returns : goal.returns
returns c = replaced_keeps
