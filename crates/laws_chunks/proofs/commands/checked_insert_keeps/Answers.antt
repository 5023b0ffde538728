use Rattle.laws_chunks.proofs.CheckedCommands.{checked_insert_keeps}
use Rattle.laws_chunks.proofs.commands.checked_insert_keeps.Goals as goal

pub returns : goal.returns
returns c = checked_insert_keeps
