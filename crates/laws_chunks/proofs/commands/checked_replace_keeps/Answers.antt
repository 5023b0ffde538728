use Rattle.laws_chunks.proofs.CheckedCommands.{checked_replace_keeps}
use Rattle.laws_chunks.proofs.commands.checked_replace_keeps.Goals as goal

pub returns : goal.returns
returns c = checked_replace_keeps
