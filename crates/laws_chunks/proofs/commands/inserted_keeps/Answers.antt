use Rattle.laws_chunks.proofs.InsertCommand.{inserted_keeps}
use Rattle.laws_chunks.proofs.commands.inserted_keeps.Goals as goal

pub returns : goal.returns
returns c = inserted_keeps
